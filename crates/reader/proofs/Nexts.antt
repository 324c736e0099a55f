-- Each way through a line of a block is what specs/Blocks says.
use Rattle.std.proofs.Common.{◌≡◌, ℕ, zero, suc, ◌-◌, ◌<◌, ◌≤◌, Bool, true, false, cond, List, length, IfOk, Ok, Err, Option, Result, refl, ap, ◌∙◌, arith}
use Rattle.std.proofs.lemmas.Bool.{le-leb, lt-leb}
use denote.Enum.Bare.{sameb}
use Rattle.reader.specs.contracts.blocks.Ending.{the_type}
use Rattle.grammar.specs.Walk.{and_then}
use Rattle.grammar.specs.declared.refusals.Refusal.{Refusal}
use Rattle.grammar.specs.declared.lines.Lined.{Lined}
use Rattle.grammar.proofs.Atoms.{then_ok}
use Rattle.reader.specs.Blocks.{next_at, block_at, by_kind, kind_of_spec, is_else_spec, must_end_spec, must_as, must_loop_spec, must_loop_as}
use Rattle.reader.specs.declared.blocks.Ending.{Ending}
use Rattle.reader.specs.declared.blocks.Ending.TheVariants.{Text, Else, End}
use Rattle.reader.specs.declared.blocks.Kind.{Kind}
use Rattle.reader.specs.declared.blocks.Stop.{Stop}

pub made_less : (r : Result Stop Refusal) (a b : ℕ) → a ≤ b → IfOk r (λ s. s.left ≤ a) → IfOk r (λ s. s.left ≤ b)
made_less (Ok s) a b h m = omega (arith, h, m)
made_less (Err e) a b h m = tt

module _ (find : List ℕ → Option ℕ) (text : List ℕ) (deep left i : ℕ) where
  module _ (some : Bool) where
    pub block_text : (f : ℕ) → left < f → length text ≤ i → Ok (record { ending = Text; some = some; pos = i; next = i; left = left }) ≡ block_at find text f deep left i some
    unfolding block_at
    block_text zero h t = absurd (omega arith)
    block_text (suc f) h t = rw (le-leb (length text) i t) refl

    pub block_step : (f : ℕ) → left < f → i < length text
        → and_then (next_at find text deep left i) (λ l. by_kind (block_at find text (f - 1)) deep left i some (kind_of_spec l.line) l.next) ≡ block_at find text f deep left i some
    unfolding block_at
    block_step zero h t = absurd (omega arith)
    block_step (suc f) h t = let q : suc f - 1 ≡ f = omega arith in rw (lt-leb (length text) i t, q) refl

    pub block_kind : (f : ℕ) (l : Lined) (k : Kind) → left < f → i < length text → Ok l ≡ next_at find text deep left i → k ≡ kind_of_spec l.line
        → by_kind (block_at find text (f - 1)) deep left i some k l.next ≡ block_at find text f deep left i some
    block_kind f l k h t e q =
        ap (λ m. by_kind (block_at find text (f - 1)) deep left i some m l.next) q
        ∙ then_ok (next_at find text deep left i) (λ m. by_kind (block_at find text (f - 1)) deep left i some (kind_of_spec m.line) m.next) l e
        ∙ block_step f h t

-- What `==` says of an else.
pub same_else : (g : Ending) → sameb the_type g Else ≡ is_else_spec g
same_else Text = refl
same_else Else = refl
same_else End = refl

pub cond-taken : {A : Type 0} (b : Bool) (x y : A) → b ≡ true → x ≡ cond b x y
cond-taken b x y h = rw h refl

pub cond-passed : {A : Type 0} (b : Bool) (x y : A) → b ≡ false → y ≡ cond b x y
cond-passed b x y h = rw h refl

-- what a block's end hands on
same_ok : (x y : Stop) → ◌≡◌ {A = Result Stop Refusal} (Ok x) (Ok y) → x ≡ y
same_ok x y e = cc

not-ok : (x : Stop) (d : Refusal) → ◌≡◌ {A = Result Stop Refusal} (Ok x) (Err d) → ⊥
not-ok x d e = let z : ◌≡◌ {A = ℕ} 0 1 = cc in omega arith

end-as : (g : Ending) (s e : Stop) → Ok e ≡ must_as End g s → e ≡ s
end-as Text s e h = absurd (not-ok e _ h)
end-as Else s e h = absurd (not-ok e _ h)
end-as End s e h = same_ok e s h

pub end_left : (s e : Stop) → Ok e ≡ must_end_spec s → e.left ≡ s.left
end_left s e h = ap (λ m. m.left) (end-as s.ending s e h)

loop_some : (b : Bool) (s e : Stop) (d : Refusal) → Ok e ≡ cond b (Ok s) (Err d) → (e ≡ s) × (b ≡ true)
loop_some true s e d h = (same_ok e s h, refl)
loop_some false s e d h = absurd (not-ok e d h)

loop-as : (g : Ending) (s e : Stop) → Ok e ≡ must_loop_as g s → e ≡ s
loop-as Text s e h = absurd (not-ok e _ h)
loop-as Else s e h = absurd (not-ok e _ h)
loop-as End s e h = (loop_some s.some s e _ h).0

pub loop_left : (s e : Stop) → Ok e ≡ must_loop_spec s → e.left ≡ s.left
loop_left s e h = ap (λ m. m.left) (loop-as s.ending s e h)
