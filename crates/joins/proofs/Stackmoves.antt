-- A join put, and how many there are: what the stack is then.
use Rattle.std.proofs.Common.{◌≡◌, ℕ, suc, ◌+◌, ◌-◌, ◌*◌, ◌/◌, ◌%◌, ◌<◌, ◌≤◌, List, [], ◌∷◌, ◌++◌, length, sym, refl, ap, ◌∙◌, inl, inr, add-one, arith}
use Rattle.std.proofs.lemmas.Bool.{cases_eq}
use Rattle.masks.specs.Masks.{lacking}
use Rattle.store.specs.declared.Sizes.{Sizes}
use Rattle.store.specs.Lent.{slot_of, Aside}
use Rattle.joins.specs.declared.Join.{Join}
use Rattle.joins.specs.Stack.{RowAt, width_of, join_at, depth_of, down_from, stack_of, lost, leaves, Stacked}
use Rattle.joins.specs.Words.{Deep, JoinPut}
use Rattle.joins.proofs.Stacklists.{down-none, down-more, down-split, down-lost, down_out, down-length, leaves-past}
use Rattle.joins.proofs.Stackframes.{lane_there, lane-near, join_is, join-words, join-same, depth_same, depth_is, stack_is, depth-most, stacked-none, stacked-both, stacked-aside}

pub deep : (z : Sizes) (g start n : ℕ) (ls ls' : List ℕ) → RowAt z g start → n ≤ 16 * width_of z.lanes start → Aside z g 6 start n ls ls' → Deep z g start n ls ls'
deep z g start n ls ls' row most a = record {
  frame = stacked-aside z g start row 6 start n ls ls' (omega arith) (omega arith) (omega arith) (omega arith) a;
  depth = depth_is z ls' g start n most a.here;
  same = λ k h.
      let there = lane_there z start k h in
      let kept : (s : ℕ) → s < 128 → (s ≡ 6 → ⊥) → slot_of z ls' g s (start + k / 16) ≡ slot_of z ls g s (start + k / 16) = λ s p q. a.rest g s (start + k / 16) (omega arith) there (λ x y w. q y) in
      join-same z ls ls' g start k (kept (16 + k % 16) (omega arith) (λ e. omega arith)) (kept (32 + k % 16) (omega arith) (λ e. omega arith)) (kept (48 + k % 16) (omega arith) (λ e. omega arith));
}

module _ (z : Sizes) (g start k : ℕ) (j : Join) (ls ls₁ ls₂ ls₃ : List ℕ) (row : RowAt z g start) (h : k < 16 * width_of z.lanes start)
    (a : Aside z g (16 + k % 16) (start + k / 16) j.branch ls ls₁) (b : Aside z g (32 + k % 16) (start + k / 16) j.line ls₁ ls₂)
    (c : Aside z g (48 + k % 16) (start + k / 16) j.lanes ls₂ ls₃) where
  -- other words
  apart : (s l : ℕ) → s < 128 → l < z.lanes → (s ≡ 16 + k % 16 → l ≡ start + k / 16 → ⊥) → (s ≡ 32 + k % 16 → l ≡ start + k / 16 → ⊥) → (s ≡ 48 + k % 16 → l ≡ start + k / 16 → ⊥) →
      slot_of z ls₃ g s l ≡ slot_of z ls g s l
  apart s l hs hl p q r = c.rest g s l (omega arith) hl (λ _ x y. r x y) ∙ (b.rest g s l (omega arith) hl (λ _ x y. q x y) ∙ a.rest g s l (omega arith) hl (λ _ x y. p x y))

  frame-put : Stacked z g start ls ls₃
  frame-put =
      let near = lane-near z start k h in
      stacked-both z g start ls ls₂ ls₃
      (stacked-both z g start ls ls₁ ls₂
      (stacked-aside z g start row (16 + k % 16) (start + k / 16) j.branch ls ls₁ (omega arith) (omega arith) (omega arith) near a)
      (stacked-aside z g start row (32 + k % 16) (start + k / 16) j.line ls₁ ls₂ (omega arith) (omega arith) (omega arith) near b))
      (stacked-aside z g start row (48 + k % 16) (start + k / 16) j.lanes ls₂ ls₃ (omega arith) (omega arith) (omega arith) near c)

  here_put : join_at z ls₃ g start k ≡ j
  here_put =
      let there = lane_there z start k h in
      join-words z ls₃ g start k j
      (c.rest g (16 + k % 16) (start + k / 16) (omega arith) there (λ _ x _. omega arith) ∙ (b.rest g (16 + k % 16) (start + k / 16) (omega arith) there (λ _ x _. omega arith) ∙ a.here))
      (c.rest g (32 + k % 16) (start + k / 16) (omega arith) there (λ _ x _. omega arith) ∙ b.here)
      c.here

  same-put : (i : ℕ) → i < 16 * width_of z.lanes start → (i ≡ k → ⊥) → join_at z ls₃ g start i ≡ join_at z ls g start i
  same-put i hi ne =
      let there = lane_there z start i hi in
      let no : i % 16 ≡ k % 16 → start + i / 16 ≡ start + k / 16 → ⊥ = λ p q. ne (omega arith) in
      join-same z ls ls₃ g start i
      (apart (16 + i % 16) (start + i / 16) (omega arith) there (λ p q. no (omega arith) q) (λ p q. omega arith) (λ p q. omega arith))
      (apart (32 + i % 16) (start + i / 16) (omega arith) there (λ p q. omega arith) (λ p q. no (omega arith) q) (λ p q. omega arith))
      (apart (48 + i % 16) (start + i / 16) (omega arith) there (λ p q. omega arith) (λ p q. omega arith) (λ p q. no (omega arith) q))

  pub join-put : JoinPut z g start k j ls ls₃
  join-put = record {
    frame = frame-put;
    depth = depth_same z ls ls₃ g start (apart 6 start (omega arith) row.lane (λ p q. omega arith) (λ p q. omega arith) (λ p q. omega arith));
    here = here_put;
    same = same-put;
  }

pub cleared : (z : Sizes) (g start : ℕ) (ls ls' : List ℕ) → Deep z g start 0 ls ls' → stack_of z ls' g start ≡ []
cleared z g start ls ls' d = stack_is z ls' g start 0 (join_at z ls' g start) d.depth (λ k h. refl) ∙ down-none (join_at z ls' g start)

module _ (z : Sizes) (g start : ℕ) (ls : List ℕ) where
  pub stack-was : stack_of z ls g start ≡ down_from (join_at z ls g start) (depth_of z ls g start)
  stack-was = stack_is z ls g start (depth_of z ls g start) (join_at z ls g start) refl (λ k h. refl)

  pub stack-length : length (stack_of z ls g start) ≡ depth_of z ls g start
  stack-length = ap (λ (xs : List Join). length xs) stack-was ∙ down-length (join_at z ls g start) (depth_of z ls g start)

  -- join k on the stack, with those above it and those below
  pub stack-split : (k : ℕ) → k < depth_of z ls g start → (above : List Join) × (stack_of z ls g start ≡ above ++ (join_at z ls g start k ∷ down_from (join_at z ls g start) k))
  stack-split k h = let p = down-split (join_at z ls g start) (depth_of z ls g start) k h in (p.0, stack-was ∙ p.1)

  pub pushed : (n : ℕ) (j : Join) (ls' ls'' : List ℕ) → n ≡ depth_of z ls g start → n < 16 * width_of z.lanes start → JoinPut z g start n j ls ls' → Deep z g start (n + 1) ls' ls'' →
      stack_of z ls'' g start ≡ j ∷ stack_of z ls g start
  pushed n j ls' ls'' e h p d =
      stack_is z ls'' g start (suc n) (join_at z ls'' g start) (d.depth ∙ add-one n) (λ k l. refl)
      ∙ (down-more (join_at z ls g start) (join_at z ls'' g start) n j (d.same n h ∙ p.here) (λ k l. d.same k (omega arith) ∙ p.same k (omega arith) (λ q. omega arith))
      ∙ ap (λ (xs : List Join). j ∷ xs) (ap (down_from (join_at z ls g start)) e ∙ sym stack-was))

  -- lanes go on from a join that isn't there
  pub past : (k mask : ℕ) → depth_of z ls g start ≤ k → stack_of z ls g start ≡ leaves (stack_of z ls g start) k mask
  past k mask h =
      let len = stack-length in
      sym (leaves-past (stack_of z ls g start) k mask (omega arith))

  -- it has lanes left
  pub lessened : (n k mask : ℕ) (j : Join) (ls' : List ℕ) → n ≡ depth_of z ls g start → k < n → j ≡ lost (join_at z ls g start k) mask → (lacking (join_at z ls g start k).lanes mask ≡ 0 → ⊥) →
      JoinPut z g start k j ls ls' → stack_of z ls' g start ≡ leaves (stack_of z ls g start) k mask
  lessened n k mask j ls' e h is some p =
      let m = depth-most z ls g start in
      stack_is z ls' g start n (join_at z ls' g start) (p.depth ∙ sym e) (λ i l. refl)
      ∙ (down-lost (join_at z ls g start) (join_at z ls' g start) n k mask h (p.here ∙ is) some (λ i l q. p.same i (omega arith) q)
      ∙ ap (λ (xs : List Join). leaves xs k mask) (ap (down_from (join_at z ls g start)) e ∙ sym stack-was))

pub lost_as : (old j : Join) (mask left : ℕ) → old ≡ j → left ≡ lacking old.lanes mask → record { branch = old.branch; line = old.line; lanes = left } ≡ lost j mask
lost_as old j mask left e q = join_is _ _ _ _ _ _ refl refl q ∙ ap (λ (o : Join). lost o mask) e

-- the joins above k up to i have moved down by one
pub record MovedDown (z : Sizes) (g start k i : ℕ) (ls ls' : List ℕ) : Type 0 where
  pub frame : Stacked z g start ls ls'
  pub low : (j : ℕ) → j < k → j < 16 * width_of z.lanes start → join_at z ls' g start j ≡ join_at z ls g start j
  pub moved : (j : ℕ) → k ≤ j → suc j < i → join_at z ls' g start j ≡ join_at z ls g start (suc j)
  pub rest : (j : ℕ) → i ≤ suc j → j < 16 * width_of z.lanes start → join_at z ls' g start j ≡ join_at z ls g start j

pub moved_none : (z : Sizes) (g start k i : ℕ) (ls : List ℕ) → i ≡ k + 1 → MovedDown z g start k i ls ls
moved_none z g start k i ls e = record {
  frame = stacked-none z g start ls;
  low = λ j a b. refl;
  moved = λ j a b. absurd (omega arith);
  rest = λ j a b. refl;
}

pub moved_more : (z : Sizes) (g start k i : ℕ) (x : Join) (ls ls' ls'' : List ℕ) → k + 1 ≤ i → i < 16 * width_of z.lanes start → MovedDown z g start k i ls ls' → x ≡ join_at z ls' g start i →
    JoinPut z g start (i - 1) x ls' ls'' → MovedDown z g start k (i + 1) ls ls''
moved_more z g start k i x ls ls' ls'' hk hi m e p = record {
  frame = stacked-both z g start ls ls' ls'' m.frame p.frame;
  low = λ j a b. p.same j b (λ q. omega arith) ∙ m.low j a b;
  moved = λ j a b. elim (cases_eq (suc j) i) [
    | inl q ↦
        let r : i - 1 ≡ j = omega arith in
        (rw r at p.here) ∙ (e ∙ (m.rest i (omega arith) hi ∙ ap (join_at z ls g start) (sym q)))
    | inr ne ↦ p.same j (omega arith) (λ q. omega arith) ∙ m.moved j a (omega arith)
  ];
  rest = λ j a b. p.same j b (λ q. omega arith) ∙ m.rest j (omega arith) b;
}

pub taken : (z : Sizes) (g start k n mask : ℕ) (ls ls' ls'' : List ℕ) → n ≡ depth_of z ls g start → k < n → lacking (join_at z ls g start k).lanes mask ≡ 0 → MovedDown z g start k n ls ls' →
    Deep z g start (n - 1) ls' ls'' → stack_of z ls'' g start ≡ leaves (stack_of z ls g start) k mask
taken z g start k n mask ls ls' ls'' e h none m d =
    let w = depth-most z ls g start in let one : suc (n - 1) ≡ n = omega arith in
    stack_is z ls'' g start (n - 1) (join_at z ls'' g start) d.depth (λ i l. refl)
    ∙ (down_out (join_at z ls g start) (join_at z ls'' g start) (n - 1) k mask (omega arith) none
    (λ i l. d.same i (omega arith) ∙ m.low i l (omega arith))
    (λ i a l. d.same i (omega arith) ∙ m.moved i a (omega arith))
    ∙ ap (λ (xs : List Join). leaves xs k mask) (ap (down_from (join_at z ls g start)) (one ∙ e) ∙ sym (stack-was z g start ls)))
