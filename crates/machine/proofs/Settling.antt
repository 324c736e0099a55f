-- Lanes that stand where their jumps lead, and what that is at a barrier.
use Rattle.std.proofs.Common.{◌≡◌, ℕ, suc, ◌+◌, ◌<◌, ◌≤◌, true, false, ◌⊎◌, List, sym, refl, ap, ◌∙◌, subst, inl, inr, arith}
use Rattle.std.proofs.lemmas.Bool.{both_ways, cases_eq}
use Rattle.lanes.specs.Syntax.{Body, barrier, at_barrier}
use Rattle.grammar.specs.Spelling.{Named}
use Rattle.code.specs.declared.step.Step.{Step}
use Rattle.code.specs.declared.step.Step.TheVariants.{Put, Read, Write, Branch, Jump, Barrier, End}
use Rattle.code.specs.Words.{step_at}
use Rattle.code.specs.Code.{Does, Goes, Onward, Settled, is_jump}
use Rattle.store.specs.declared.Sizes.{Sizes}
use Rattle.store.specs.Layout.{slots}
use Rattle.store.specs.Lent as store
use Rattle.store.specs.Lent.{Only, Lined, slot_of, line_at, grid_of}
use Rattle.machine.specs.Line.{Runs}
use Rattle.machine.specs.Moves.{LaneSettled, GroupSettled}

module _ (z : Sizes) (steps : List ℕ) (lines g l : ℕ) (ls : List ℕ) (entry : ℕ) where
  abbrev Leads : Type 0
  Leads = (at : ℕ → Body) → Runs z at steps lines ls → Settled at (step_at steps lines) lines (line_at z ls g l) entry

  pub settled-then : (ls' : List ℕ) → store.Settled z g l entry ls ls' → entry ≤ lines → Leads → LaneSettled z steps lines g l ls ls'
  settled-then ls' s h leads = record {
    only = s.only;
    same = s.same;
    runs = λ at k. record { ns = k.ns; text = k.text; owns = k.owns; coded = k.coded; lined = s.lined (suc lines) (omega arith) k.lined };
    settled = λ at k. rw s.here (leads at k);
    grid = λ at cs k. s.grid at cs (leads at k).left;
  }

  pub settled-else : lines < entry → Leads → LaneSettled z steps lines g l ls ls
  settled-else h leads = record {
    only = record { others = λ _ _ _ _ _ _. refl; words = λ _ _ _ _ _ _. refl };
    same = λ _ _ _. refl;
    runs = λ at k. k;
    settled = λ at k. absurd (let w = (leads at k).within in omega arith);
    grid = λ at cs k. refl;
  }

pub leads-to : (z : Sizes) (at : ℕ → Body) (steps : List ℕ) (lines g l : ℕ) (ls : List ℕ) → g < z.groups → l < z.lanes → Runs z at steps lines ls → line_at z ls g l ≤ lines
unfolding Lined
leads-to z at steps lines g l ls hg hl k = let h = k.lined g l hg hl in omega arith

-- at a barrier that is no jump, what is behind it is left at the next entry
abbrev pub Bars : (ℕ → Body) → ℕ → ℕ → Type 0
Bars at lines r = (at r ≡ barrier (at (r + 1))) × (r + 1 ≤ lines)

at_barrier-next : (N : ℕ → List ℕ → Type 0) (text : List ℕ) (owns lines : ℕ) (at : ℕ → Body) (code : ℕ → Step) (r : ℕ) (s : Step) → is_jump s ≡ false → Does N text at s (at r) → Goes owns lines s →
    Onward code r s → at_barrier (at r) ≡ true → Bars at lines r
unfolding at_barrier
at_barrier-next N text owns lines at code r (Put k x i) j (e, st, q) go on b = absurd (both_ways _ (ap at_barrier q) b)
at_barrier-next N text owns lines at code r (Read true k x i) j (e, st, q) go on b = absurd (both_ways _ (ap at_barrier q) b)
at_barrier-next N text owns lines at code r (Read false k x i) j (e, st, q) go on b = absurd (both_ways _ (ap at_barrier q) b)
at_barrier-next N text owns lines at code r (Write true x y i) j (e, f, st, su, q) go on b = absurd (both_ways _ (ap at_barrier q) b)
at_barrier-next N text owns lines at code r (Write false x y i) j (e, f, st, su, q) go on b = absurd (both_ways _ (ap at_barrier q) b)
at_barrier-next N text owns lines at code r (Branch x y n k false) j (e, st, q) go on b = absurd (both_ways _ (ap at_barrier q.is) b)
at_barrier-next N text owns lines at code r (Branch x y n k true) j (e, st, q) go on b = absurd (both_ways _ (ap at_barrier q.is) b)
at_barrier-next N text owns lines at code r (Jump i) j d go on b = absurd (both_ways true j refl)
at_barrier-next N text owns lines at code r (Barrier i) j d go on b = let e : i ≡ r + 1 = omega (arith, on) in (d ∙ ap (λ (k : ℕ). barrier (at k)) e, omega (arith, go))
at_barrier-next N text owns lines at code r End j d go on b = absurd (both_ways _ (ap at_barrier d) b)

pub waits-next : (z : Sizes) (at : ℕ → Body) (steps : List ℕ) (lines i r : ℕ) (ls : List ℕ) → Runs z at steps lines ls → Settled at (step_at steps lines) lines i r → at_barrier (at i) ≡ true →
    Bars at lines r
waits-next z at steps lines i r ls k s b =
    at_barrier-next (Named k.ns) k.text k.owns lines at (step_at steps lines) r (step_at steps lines r) s.stays (k.coded.does r s.within) (k.coded.goes r s.within)
    (k.coded.onward r s.within) (rw s.left b)

-- a group's lanes, one after the other
module _ (z : Sizes) (steps : List ℕ) (lines g : ℕ) where
  pub group-none : (ls : List ℕ) → GroupSettled z steps lines g 0 ls ls
  group-none ls = record { rest = λ _ _ _ _ _ _. refl; others = λ _ _ _ _. refl; runs = λ _ k. k; settled = λ _ k h. absurd (omega arith); grid = λ _ _ _. refl }

  line_other : (ls ls' : List ℕ) (l h k : ℕ) → Only z g l ls ls' → k < z.lanes → (h ≡ g → k ≡ l → ⊥) → line_at z ls' h k ≡ line_at z ls h k
  unfolding line_at
  line_other ls ls' l h k only hk ne = only.others h 0 k (omega arith) hk ne

  slot_kept : (ls ls' : List ℕ) (l h s k : ℕ) → LaneSettled z steps lines g l ls ls' → 1 ≤ s → s < slots z → k < z.lanes → slot_of z ls' h s k ≡ slot_of z ls h s k
  slot_kept ls ls' l h s k d one hs hk = by (cases_eq h g) (cases_eq k l)
    where
      by : (h ≡ g) ⊎ (h ≡ g → ⊥) → (k ≡ l) ⊎ (k ≡ l → ⊥) → slot_of z ls' h s k ≡ slot_of z ls h s k
      by (inl p) (inl q) = rw (p, q) (d.same s one hs)
      by (inl p) (inr q) = d.only.others h s k hs hk (λ _ r. q r)
      by (inr p) q = d.only.others h s k hs hk (λ r _. p r)

  pub group-more : (l : ℕ) (ls ls' ls'' : List ℕ) → l < z.lanes → GroupSettled z steps lines g l ls ls' → LaneSettled z steps lines g l ls' ls'' → GroupSettled z steps lines g (l + 1) ls ls''
  group-more l ls ls' ls'' hl a b = record {
    rest = λ h s k one hs hk. slot_kept ls' ls'' l h s k b one hs hk ∙ a.rest h s k one hs hk;
    others = λ h k hk ne. line_other ls' ls'' l h k b.only hk (λ p q. ne p (omega arith)) ∙ a.others h k hk (λ p q. ne p (omega arith));
    runs = λ at k. b.runs at (a.runs at k);
    settled = λ at k h r. elim (cases_eq k l) [
      | inl q ↦ let s = b.settled at (a.runs at r) in
          rw q (subst (λ (i : ℕ). Settled at (step_at steps lines) lines i (line_at z ls'' g l)) (a.others g l hl (λ _ w. omega arith)) s)
      | inr q ↦ subst (λ (i : ℕ). Settled at (step_at steps lines) lines (line_at z ls g k) i) (sym (line_other ls' ls'' l g k b.only (omega arith) (λ _ w. q w))) (a.settled at k (omega arith) r)
    ];
    grid = λ at cs k. b.grid at cs (a.runs at k) ∙ a.grid at cs k;
  }
