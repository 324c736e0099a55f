-- What of the lent words a row's stack is made of, and that nothing else changes.
use Rattle.std.proofs.Common.{◌≡◌, ℕ, ◌+◌, ◌-◌, ◌*◌, ◌/◌, ◌%◌, ◌<◌, ◌≤◌, min, List, refl, ap, ◌∙◌, ap₂, arith}
use native.Mathlib.Nat.{min-le_left, min-le_right, min-eq_left}
use Rattle.store.specs.declared.Sizes.{Sizes}
use Rattle.store.specs.Layout.{slots}
use Rattle.store.specs.Lent.{slot_of, line_at, phase_of_spec, Aside}
use Rattle.joins.specs.declared.Join.{Join}
use Rattle.joins.specs.Stack.{RowAt, width_of, join_at, depth_of, down_from, stack_of, Stacked}
use Rattle.joins.proofs.Stacklists.{down-same}

pub width-most : (z : Sizes) (start : ℕ) → width_of z.lanes start ≤ 32
unfolding width_of
width-most z start = min-le_right (z.lanes - start) 32

pub width-there : (z : Sizes) (start : ℕ) → width_of z.lanes start ≤ z.lanes - start
unfolding width_of
width-there z start = min-le_left (z.lanes - start) 32

pub depth-most : (z : Sizes) (ls : List ℕ) (g start : ℕ) → depth_of z ls g start ≤ 16 * width_of z.lanes start
unfolding depth_of
depth-most z ls g start = min-le_right (slot_of z ls g 6 start) (16 * width_of z.lanes start)

-- the lane that a join lies in
pub lane_there : (z : Sizes) (start k : ℕ) → k < 16 * width_of z.lanes start → start + k / 16 < z.lanes
lane_there z start k h = let a = width-there z start in omega arith

pub lane-near : (z : Sizes) (start k : ℕ) → k < 16 * width_of z.lanes start → start + k / 16 < start + 32
lane-near z start k h = let a = width-most z start in omega arith

pub join_is : (a b c a' b' c' : ℕ) → a ≡ a' → b ≡ b' → c ≡ c' → ◌≡◌ {A = Join} (record { branch = a; line = b; lanes = c }) (record { branch = a'; line = b'; lanes = c' })
join_is a b c a' b' c' p q r = rw (p, q, r)

pub join-words : (z : Sizes) (ls : List ℕ) (g start k : ℕ) (j : Join) → slot_of z ls g (16 + k % 16) (start + k / 16) ≡ j.branch →
    slot_of z ls g (32 + k % 16) (start + k / 16) ≡ j.line → slot_of z ls g (48 + k % 16) (start + k / 16) ≡ j.lanes → join_at z ls g start k ≡ j
unfolding join_at
join-words z ls g start k j p q r = join_is _ _ _ _ _ _ p q r

pub join-same : (z : Sizes) (ls ls' : List ℕ) (g start k : ℕ) → slot_of z ls' g (16 + k % 16) (start + k / 16) ≡ slot_of z ls g (16 + k % 16) (start + k / 16) →
    slot_of z ls' g (32 + k % 16) (start + k / 16) ≡ slot_of z ls g (32 + k % 16) (start + k / 16) →
    slot_of z ls' g (48 + k % 16) (start + k / 16) ≡ slot_of z ls g (48 + k % 16) (start + k / 16) → join_at z ls' g start k ≡ join_at z ls g start k
unfolding join_at
join-same z ls ls' g start k p q r = join_is _ _ _ _ _ _ p q r

pub depth_same : (z : Sizes) (ls ls' : List ℕ) (g start : ℕ) → slot_of z ls' g 6 start ≡ slot_of z ls g 6 start → depth_of z ls' g start ≡ depth_of z ls g start
unfolding depth_of
depth_same z ls ls' g start e = ap (λ (n : ℕ). min n (16 * width_of z.lanes start)) e

pub depth_is : (z : Sizes) (ls : List ℕ) (g start n : ℕ) → n ≤ 16 * width_of z.lanes start → slot_of z ls g 6 start ≡ n → depth_of z ls g start ≡ n
unfolding depth_of
depth_is z ls g start n h e = ap (λ (m : ℕ). min m (16 * width_of z.lanes start)) e ∙ min-eq_left h

pub stack_is : (z : Sizes) (ls : List ℕ) (g start n : ℕ) (f : ℕ → Join) → depth_of z ls g start ≡ n → ((k : ℕ) → k < n → join_at z ls g start k ≡ f k) → stack_of z ls g start ≡ down_from f n
unfolding stack_of
stack_is z ls g start n f e h = ap (down_from (join_at z ls g start)) e ∙ down-same f (join_at z ls g start) n h

-- the stack of a row lies in its own lanes
pub stack_same : (z : Sizes) (ls ls' : List ℕ) (g start : ℕ) → RowAt z g start →
    ((s l : ℕ) → 6 ≤ s → s < 128 → start ≤ l → l < start + 32 → l < z.lanes → slot_of z ls' g s l ≡ slot_of z ls g s l) → stack_of z ls' g start ≡ stack_of z ls g start
unfolding stack_of
stack_same z ls ls' g start row h =
    stack_is z ls' g start (depth_of z ls g start) (join_at z ls g start)
    (depth_same z ls ls' g start (h 6 start (omega arith) (omega arith) (omega arith) (omega arith) row.lane))
    (λ k l.
    let m = depth-most z ls g start in
    let a = lane_there z start k (omega arith) in let b = lane-near z start k (omega arith) in
    let here : (s : ℕ) → 6 ≤ s → s < 128 → slot_of z ls' g s (start + k / 16) ≡ slot_of z ls g s (start + k / 16) = λ s p q. h s (start + k / 16) p q (omega arith) b a in
    join-same z ls ls' g start k (here (16 + k % 16) (omega arith) (omega arith)) (here (32 + k % 16) (omega arith) (omega arith)) (here (48 + k % 16) (omega arith) (omega arith)))

pub stacked-none : (z : Sizes) (g start : ℕ) (ls : List ℕ) → Stacked z g start ls ls
stacked-none z g start ls = record {
  rest = λ g' s l a b apart. refl;
  lines = λ g' l a. refl;
  phases = λ g'. refl;
  lined = λ n p. p;
  grid = λ at cs. refl;
  others = λ g' t r apart. refl;
}

pub stacked-both : (z : Sizes) (g start : ℕ) (ls ls' ls'' : List ℕ) → Stacked z g start ls ls' → Stacked z g start ls' ls'' → Stacked z g start ls ls''
stacked-both z g start ls ls' ls'' p q = record {
  rest = λ g' s l a b apart. q.rest g' s l a b apart ∙ p.rest g' s l a b apart;
  lines = λ g' l a. q.lines g' l a ∙ p.lines g' l a;
  phases = λ g'. q.phases g' ∙ p.phases g';
  lined = λ n h. q.lined n (p.lined n h);
  grid = λ at cs. q.grid at cs ∙ p.grid at cs;
  others = λ g' t r apart. q.others g' t r apart ∙ p.others g' t r apart;
}

-- one word of the stack
module _ (z : Sizes) (g start : ℕ) (row : RowAt z g start) (s l v : ℕ) (ls ls' : List ℕ) (low : 6 ≤ s) (high : s < 128) (from : start ≤ l) (to : l < start + 32) (a : Aside z g s l v ls ls') where
  rest-kept : (g' s' l' : ℕ) → s' < slots z → l' < z.lanes → (g' ≡ g → 6 ≤ s' → s' < 128 → start ≤ l' → l' < start + 32 → ⊥) → slot_of z ls' g' s' l' ≡ slot_of z ls g' s' l'
  rest-kept g' s' l' hs hl apart = a.rest g' s' l' hs hl (λ e p q. apart e (omega arith) (omega arith) (omega arith) (omega arith))

  lines_kept : (g' l' : ℕ) → l' < z.lanes → line_at z ls' g' l' ≡ line_at z ls g' l'
  unfolding line_at
  lines_kept g' l' hl = rest-kept g' 0 l' (omega arith) hl (λ e p q r t. omega arith)

  phases-kept : (g' : ℕ) → phase_of_spec z ls' g' ≡ phase_of_spec z ls g'
  unfolding phase_of_spec
  phases-kept g' =
      let some : 0 < z.lanes = let h = row.lane in omega arith in
      ap₂ (λ (x y : ℕ). x + 4294967296 * y) (rest-kept g' 2 0 (omega arith) some (λ e p q r t. omega arith)) (rest-kept g' 3 0 (omega arith) some (λ e p q r t. omega arith))

  others-kept : (g' start' : ℕ) → RowAt z g' start' → (g' ≡ g → start' ≡ start → ⊥) → stack_of z ls' g' start' ≡ stack_of z ls g' start'
  others-kept g' start' row' apart =
      stack_same z ls ls' g' start' row' (λ s' l' p q r t there.
      a.rest g' s' l' (omega arith) there (λ e f h. apart e (let x = row.even in let y = row'.even in omega arith)))

  pub stacked-aside : Stacked z g start ls ls'
  stacked-aside = record { rest = rest-kept; lines = lines_kept; phases = phases-kept; lined = a.lined; grid = a.grid; others = others-kept }
