-- The lanes of a mask stand at one line.
use Rattle.std.proofs.Common.{◌≡◌, ℕ, ◌+◌, ◌<◌, ◌≤◌, true, false, ◌⊎◌, List, sym, refl, ap, ◌∙◌, subst, inl, inr, not-suc-le-zero, arith}
use Rattle.std.proofs.lemmas.Bool.{cases_eq, both_ways}
use Rattle.store.specs.declared.Sizes.{Sizes}
use Rattle.store.specs.Layout.{slots}
use Rattle.store.specs.Lent.{slot_of, line_at, Settled}
use Rattle.masks.specs.Masks.{on}
use Rattle.machine.specs.Plans.{RowStood}

line-slot : (z : Sizes) (ls ls' : List ℕ) (g l : ℕ) → slot_of z ls' g 0 l ≡ slot_of z ls g 0 l → line_at z ls' g l ≡ line_at z ls g l
unfolding line_at
line-slot z ls ls' g l e = e

pub stood-none : (z : Sizes) (g start mask line : ℕ) (ls : List ℕ) → RowStood z g start mask line 0 ls ls
stood-none z g start mask line ls =
    record { here = λ j h. absurd (not-suc-le-zero h); rest = λ _ _ _ _ _ _. refl; lined = λ _ _ h. h; grid = λ _ _ _. refl }

module _ (z : Sizes) (g start mask line i : ℕ) (ls ls' : List ℕ) (far : RowStood z g start mask line i ls ls') where
  pub stood-off : on mask i ≡ false → RowStood z g start mask line (i + 1) ls ls'
  stood-off e =
      record {
        here = λ j h o. by j h o (cases_eq j i);
        rest = λ g' s l hs hl ne. far.rest g' s l hs hl (λ a b j x h o. ne a b j x (omega arith) o);
        lined = far.lined;
        grid = far.grid;
      }
    where
      by : (j : ℕ) → j < i + 1 → on mask j ≡ true → (j ≡ i) ⊎ (j ≡ i → ⊥) → line_at z ls' g (start + j) ≡ line
      by j h o (inl x) = absurd (both_ways (on mask i) e (subst (λ (n : ℕ). on mask n ≡ true) x o))
      by j h o (inr ne) = far.here j (omega arith) o

  module _ (ls'' : List ℕ) (hi : i < 32) (there : (j : ℕ) → j < 32 → on mask j ≡ true → start + j < z.lanes) (e : on mask i ≡ true) (st : Settled z g (start + i) line ls' ls'') where
    slot-else : (g' s l : ℕ) → s < slots z → l < z.lanes → (g' ≡ g → s ≡ 0 → l ≡ start + i → ⊥) → slot_of z ls'' g' s l ≡ slot_of z ls' g' s l
    slot-else g' s l hs hl ne = by (cases_eq g' g) (cases_eq l (start + i)) (cases_eq s 0)
      where
        by : (g' ≡ g) ⊎ (g' ≡ g → ⊥) → (l ≡ start + i) ⊎ (l ≡ start + i → ⊥) → (s ≡ 0) ⊎ (s ≡ 0 → ⊥) → slot_of z ls'' g' s l ≡ slot_of z ls' g' s l
        by (inr a) b c = st.only.others g' s l hs hl (λ x _. a x)
        by (inl a) (inr b) c = st.only.others g' s l hs hl (λ _ x. b x)
        by (inl a) (inl b) (inl c) = absurd (ne a c b)
        by (inl a) (inl b) (inr c) = let one : 1 ≤ s = omega arith in rw (a, b) (st.same s one hs)

    pub stood_on : RowStood z g start mask line (i + 1) ls ls''
    stood_on =
        record {
          here = λ j h o. by j h o (cases_eq j i);
          rest = λ g' s l hs hl ne. slot-else g' s l hs hl (λ a b x. ne a b i x (omega arith) e) ∙ far.rest g' s l hs hl (λ a b j x h o. ne a b j x (omega arith) o);
          lined = λ lines h old. st.lined lines h (far.lined lines h old);
          grid = λ at cs same. st.grid at cs (same i hi e ∙ sym (ap at (still i (omega arith)))) ∙ far.grid at cs same;
        }
      where
        still : (j : ℕ) → i ≤ j → line_at z ls' g (start + i) ≡ line_at z ls g (start + i)
        still j h = line-slot z ls ls' g (start + i) (far.rest g 0 (start + i) (omega arith) (there i hi e) (λ _ _ k x q _. omega arith))

        by : (j : ℕ) → j < i + 1 → on mask j ≡ true → (j ≡ i) ⊎ (j ≡ i → ⊥) → line_at z ls'' g (start + j) ≡ line
        by j h o (inl x) = rw x st.here
        by j h o (inr ne) =
            line-slot z ls' ls'' g (start + j) (slot-else g 0 (start + j) (omega arith) (there j (omega arith) o) (λ _ _ x. ne (omega arith))) ∙ far.here j (omega arith) o
