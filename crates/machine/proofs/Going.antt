-- A group whose lanes stand at their barriers goes on.
use Rattle.std.proofs.Common.{◌≡◌, ℕ, suc, ◌+◌, ◌<◌, ◌≤◌, true, List, sym, ap, ◌∙◌, inl, inr, arith}
use Rattle.std.proofs.lemmas.Bool.{both_ways, cases_Bool}
use Rattle.lanes.specs.Syntax.{Body, barrier, at_barrier}
use Rattle.lanes.specs.Grid.{Grid, release, can, turn}
use Rattle.store.specs.declared.Sizes.{Sizes}
use Rattle.store.specs.Lent.{Lined, line_at, phase_of_spec, grid_of}
use Rattle.store.specs.Acts.{Released}
use Rattle.store.proofs.Slots.{phase-same}
use Rattle.machine.specs.Line.{Runs}
use Rattle.machine.specs.Moves.{GroupSettled, WentOn}
use Rattle.machine.proofs.Stances.{cannot-go}
use Rattle.machine.proofs.Settling.{Bars, waits-next}

pub lined-up : (z : Sizes) (a b : ℕ) (ls : List ℕ) → a ≤ b → Lined z a ls → Lined z b ls
unfolding Lined
lined-up z a b ls h k g l hg hl = let q = k g l hg hl in omega arith

pub all-wait : (z : Sizes) (at : ℕ → Body) (ls cs : List ℕ) (g l : ℕ) → g < z.groups → l < z.lanes → can z.lanes (grid_of z at ls cs) (release g) ≡ true → at_barrier (at (line_at z ls g l)) ≡ true
all-wait z at ls cs g l hg hl could = elim (cases_Bool (at_barrier (at (line_at z ls g l)))) [ inl e ↦ e | inr e ↦ absurd (both_ways _ (cannot-go z at ls cs g l hg hl e) could) ]

module _ (z : Sizes) (steps : List ℕ) (lines g : ℕ) (ls ls₁ ls₂ : List ℕ) (some : 0 < z.lanes) (hg : g < z.groups) (set : GroupSettled z steps lines g z.lanes ls ls₁) where
  pub same-phase : (h : ℕ) → phase_of_spec z ls₁ h ≡ phase_of_spec z ls h
  same-phase h =
      phase-same z ls ls₁ h (set.rest h 2 0 (omega arith) (omega arith) (omega arith)) (set.rest h 3 0 (omega arith) (omega arith) (omega arith))

  module _ (rel : (cs : List ℕ) → Released z g ls₁ cs ls₂) where
    phase-other : (h : ℕ) → (h ≡ g → ⊥) → phase_of_spec z ls₂ h ≡ phase_of_spec z ls₁ h
    phase-other h ne =
        phase-same z ls₁ ls₂ h ((rel ls₁).rest h 2 0 (omega arith) (omega arith) (λ e _. ne e)) ((rel ls₁).rest h 3 0 (omega arith) (omega arith) (λ e _. ne e))

    line-rest : (h l : ℕ) → l < z.lanes → (h ≡ g → ⊥) → line_at z ls₂ h l ≡ line_at z ls₁ h l
    unfolding line_at
    line-rest h l hl ne = (rel ls₁).rest h 0 l (omega arith) hl (λ e _. ne e)

    module _ (at : ℕ → Body) (cs : List ℕ) (runs : Runs z at steps lines ls) (could : can z.lanes (grid_of z at ls cs) (release g) ≡ true) where
      bars : (l : ℕ) → l < z.lanes → Bars at lines (line_at z ls₁ g l)
      bars l hl = waits-next z at steps lines (line_at z ls g l) (line_at z ls₁ g l) ls runs (set.settled at l hl runs) (all-wait z at ls cs g l hg hl could)

      runs-now : Runs z at steps lines ls₂
      runs-now = let k = set.runs at runs in
          record { ns = k.ns; text = k.text; owns = k.owns; coded = k.coded; lined = (rel cs).lined (suc lines) (λ l hl. let b = (bars l hl).1 in omega arith) k.lined }

      behind-now : (l : ℕ) → l < z.lanes → at (line_at z ls g l) ≡ barrier (at (line_at z ls₂ g l))
      behind-now l hl = sym (set.settled at l hl runs).left ∙ ((bars l hl).0 ∙ ap (λ (k : ℕ). barrier (at k)) (sym ((rel cs).lines l hl)))

      grid-now : grid_of z at ls₂ cs ≡ turn z.lanes (grid_of z at ls cs) (release g)
      grid-now = (rel cs).grid at (λ l hl. (bars l hl).0) ∙ ap (λ (e : Grid). turn z.lanes e (release g)) (set.grid at cs runs)

    pub went_on : WentOn z steps lines g ls ls₂
    went_on = record {
      phase = (rel ls₁).phase ∙ ap (λ (k : ℕ). k + 1) (same-phase g);
      other_phases = λ h ne. phase-other h ne ∙ same-phase h;
      other_lines = λ h l hl ne. line-rest h l hl ne ∙ set.others h l hl (λ e _. ne e);
      runs = runs-now;
      behind = λ at cs l hl k could. behind-now at cs k could l hl;
      grid = grid-now;
    }
