-- Each way through an expression is what specs/Walk says.
use Rattle.std.proofs.Common.{◌≡◌, ℕ, zero, suc, List, get_or, Ok, Err, Option, Result, sym, refl}
use Rattle.std.proofs.lemmas.Bool.{ne_eqb}
use Rattle.grammar.specs.Walk.{and_then, atom_at, expr_at}
use Rattle.grammar.specs.declared.refusals.Refusal.{Refusal}

-- a step that failed, or went on
pub then-err : {X Y : Type 0} (r : Result X Refusal) (f : X → Result Y Refusal) (e : Refusal) → Err e ≡ r → Err e ≡ and_then r f
then-err r f e h = rw (sym h) refl

pub then_ok : {X Y : Type 0} (r : Result X Refusal) (f : X → Result Y Refusal) (x : X) → Ok x ≡ r → f x ≡ and_then r f
then_ok r f x h = rw (sym h) refl

pub expr-atom : (find : List ℕ → Option ℕ) (text : List ℕ) (i n : ℕ) → (get_or text i 0 ≡ 40 → ⊥) → atom_at find text i ≡ expr_at find text n i
unfolding expr_at
expr-atom find text i zero h = rw (ne_eqb (get_or text i 0) 40 h) refl
expr-atom find text i (suc n) h = rw (ne_eqb (get_or text i 0) 40 h) refl
