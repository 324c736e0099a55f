-- The start.
use Rattle.std.proofs.Common.{◌≡◌, ℕ, suc, ◌+◌, ◌-◌, ◌*◌, ◌<◌, ◌≤◌, false, eqb, List, [], ◌++◌, length, get_or, drop, replicate, ap, ◌∙◌, arith, get_or-drop}
use lib.Arith.{digits_lt}
use lib.ListN.{get_or-append}
use Rattle.std.proofs.lemmas.List.{get_or-append_right, get_or-replicate, length-replicate}
use Rattle.lanes.specs.Step.{Lane, Memory}
use Rattle.lanes.specs.Grid.{Group, Grid, begin, no_group, no_lane}
use Rattle.store.specs.declared.Sizes.{Sizes}
use Rattle.store.specs.Layout.{slots, room, base, place_of}
use Rattle.store.specs.Lent.{upto, slot_of, line_at, own_of, lane_at, phase_of_spec, group_at, field_of, memory_of, grid_of, Lined, Begun, Started}
use Rattle.store.proofs.Upto.{upto-same, upto-replicate}
use Rattle.store.proofs.Slots.{lane_is, place-lt}
use Rattle.store.proofs.Grids.{group_is}

-- a list whose front was cleared
pub front-clear : (n m : ℕ) (ys xs : List ℕ) → ys ≡ replicate m 0 → m ≡ n → (i : ℕ) → i < n → get_or (ys ++ drop n xs) i 0 ≡ 0
front-clear n m ys xs e w i k =
    let p : i < length ys = rw (e, length-replicate) (omega arith) in
    get_or-append ys (drop n xs) 0 i p ∙ (ap (λ (zs : List ℕ). get_or zs i 0) e ∙ get_or-replicate m i 0 0 (omega arith))

pub rest-kept : (n m : ℕ) (ys xs : List ℕ) → ys ≡ replicate m 0 → m ≡ n → (i : ℕ) → n ≤ i → get_or (ys ++ drop n xs) i 0 ≡ get_or xs i 0
rest-kept n m ys xs e w i k =
    let p : n + (i - n) ≡ i = omega arith in
    get_or-append_right ys (drop n xs) n i 0 (ap length e ∙ length-replicate m 0 ∙ w) k ∙ get_or-drop n xs (i - n) 0 ∙ ap (λ j. get_or xs j 0) p

memory-as : (a b : List ℕ) (x y : List (List ℕ)) → a ≡ b → x ≡ y → ◌≡◌ {A = Memory} (record { all = a; groups = x }) (record { all = b; groups = y })
memory-as a b x y p q = rw (p, q)

grid-as : (a b : List Group) (x y : Memory) → a ≡ b → x ≡ y → ◌≡◌ {A = Grid} (record { groups_of = a; memory = x }) (record { groups_of = b; memory = y })
grid-as a b x y p q = rw (p, q)

module _ (z : Sizes) (some : 0 < z.lanes) (cs ls' cs' : List ℕ) (lanes-clear : (i : ℕ) → i < room z → get_or ls' i 0 ≡ 0)
    (cells-clear : (i : ℕ) → i < z.groups * z.shared → get_or cs' i 0 ≡ 0) (field-kept : (i : ℕ) → z.groups * z.shared ≤ i → get_or cs' i 0 ≡ get_or cs i 0) where
  words-clear : (g s l : ℕ) → g < z.groups → s < slots z → l < z.lanes → slot_of z ls' g s l ≡ 0
  unfolding slot_of
  words-clear g s l hg hs hl = lanes-clear (place_of z g s l) (place-lt z g s l hg hs hl)

  line_clear : (g l : ℕ) → g < z.groups → l < z.lanes → line_at z ls' g l ≡ 0
  unfolding line_at
  line_clear g l hg hl = words-clear g 0 l hg (omega arith) hl

  phase-clear : (g : ℕ) → g < z.groups → phase_of_spec z ls' g ≡ 0
  unfolding phase_of_spec
  phase-clear g hg = rw (words-clear g 2 0 hg (omega arith) some, words-clear g 3 0 hg (omega arith) some)

  lined-clear : (lines : ℕ) → 0 < lines → Lined z lines ls'
  unfolding Lined
  lined-clear lines h g l hg hl = rw (line_clear g l hg hl) h

  field-same : field_of z cs' ≡ field_of z cs
  unfolding field_of base
  field-same = upto-same 0 _ _ z.field (λ c _. field-kept (z.groups * z.shared + c) (omega arith))

  groups-clear : (shared : ℕ) → shared ≡ z.shared → upto (λ g. upto (λ c. get_or cs' (base z (suc g) + c) 0) z.shared) z.groups ≡ replicate z.groups (replicate shared 0)
  unfolding base
  groups-clear shared e =
      upto-replicate [] _ z.groups (replicate shared 0) (λ g hg. rw e (upto-replicate 0 _ z.shared 0 (λ c hc. cells-clear (g * z.shared + c) (digits_lt hg hc))))

  own-clear : (g l owns : ℕ) → g < z.groups → l < z.lanes → owns ≡ z.owns → own_of z ls' g l ≡ replicate owns 0
  unfolding own_of
  own-clear g l owns hg hl e = rw e (upto-replicate 0 _ z.owns 0 (λ i h. words-clear g (128 + i) l hg (omega arith) hl))

  begun : Begun z ls' cs' (field_of z cs)
  unfolding Begun grid_of group_at begin memory_of
  begun at p body owns shared =
      let first : Lane = record { own = replicate p.owns 0; left = p.body; wrong = false } in
      let lane_first : (g l : ℕ) → g < z.groups → l < z.lanes → lane_at z at ls' g l ≡ first =
      λ g l hg hl. lane_is z at ls' g l first (own-clear g l p.owns hg hl owns) (ap at (line_clear g l hg hl) ∙ body) (ap (λ n. eqb n 1) (words-clear g 1 l hg (omega arith) hl)) in
      grid-as _ _ _ _
      (upto-replicate no_group _ z.groups (record { lanes_of = replicate z.lanes first; phase = 0 })
      (λ g hg. group_is _ _ _ _ (upto-replicate no_lane _ z.lanes first (λ l hl. lane_first g l hg hl)) (phase-clear g hg)))
      (memory-as _ _ _ _ field-same (groups-clear p.shared shared))

  pub started : (ls : List ℕ) → Started z ls cs ls' cs'
  started ls = record { words = words-clear; field = field-same; phases = phase-clear; lined = lined-clear; begun = begun }
