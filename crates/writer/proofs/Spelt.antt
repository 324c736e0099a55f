-- What is written spells the program that it was written from.
use Rattle.std.proofs.Common.{◌≡◌, ℕ, ◌<◌, ◌≤◌, true, eqb, ◌⊎◌, List, [], ◌∷◌, ◌++◌, length, get_or, codes, decimal as digits_of, refl, inl, inr, arith, rules}
use Rattle.std.proofs.lemmas.Fmt.{digits_decimal, digits_value-decimal, decimal_nonempty}
use Rattle.std.proofs.lemmas.Str.Parse.{IsNumeralModel, numerals_by_fold}
use Rattle.std.proofs.lemmas.Bool.{cases_Bool, eqb-true}
use Rattle.lanes.specs.Syntax.{Expr, fixed, var, lane, group, lanes, plus, minus, times, over, rest_of, less, same, Body, end, put, read_shared, write_shared, read_all, write_all, barrier, when, while, Program, ended}
use Rattle.lanes.specs.Told.{ExprFits, BodyFits}
use Rattle.grammar.specs.Spelling.{digit, each_byte, decimal, IsName, IsNumber, SpellsExpr, SpellsBody, OwnLine, CellsLine, Spelled, Named}
use Rattle.writer.specs.Written.{written_expr, written_body, written, else_lines_spec, own_line, cells_line_spec}

pub own : IsNumeralModel (λ ds. each_byte digit ds ≡ true) (decimal 0)
unfolding each_byte decimal
own = numerals_by_fold _ (search rules) decimal (search rules)

pub number-spelt : (a : ℕ) → a < 18446744073709551616 → IsNumber a (digits_of a)
number-spelt a h = record { some = decimal_nonempty a h; bytes = digits_decimal own a h; value = digits_value-decimal own a h }

pub expr-spelt : (ns : List (List ℕ)) (e : Expr) → ExprFits (length ns) e → SpellsExpr (Named ns) e (written_expr ns e)
unfolding ExprFits SpellsExpr written_expr
expr-spelt ns (fixed a) f = number-spelt a (omega arith)
expr-spelt ns (var k) f = (f, refl)
expr-spelt ns lane f = refl
expr-spelt ns group f = refl
expr-spelt ns lanes f = refl
expr-spelt ns (plus e g) f = (written_expr ns e, written_expr ns g, expr-spelt ns e f.0, expr-spelt ns g f.1, refl)
expr-spelt ns (minus e g) f = (written_expr ns e, written_expr ns g, expr-spelt ns e f.0, expr-spelt ns g f.1, refl)
expr-spelt ns (times e g) f = (written_expr ns e, written_expr ns g, expr-spelt ns e f.0, expr-spelt ns g f.1, refl)
expr-spelt ns (over e g) f = (written_expr ns e, written_expr ns g, expr-spelt ns e f.0, expr-spelt ns g f.1, refl)
expr-spelt ns (rest_of e g) f = (written_expr ns e, written_expr ns g, expr-spelt ns e f.0, expr-spelt ns g f.1, refl)
expr-spelt ns (less e g) f = (written_expr ns e, written_expr ns g, expr-spelt ns e f.0, expr-spelt ns g f.1, refl)
expr-spelt ns (same e g) f = (written_expr ns e, written_expr ns g, expr-spelt ns e f.0, expr-spelt ns g f.1, refl)

pub ended_is : (d : Body) → ended d ≡ true → d ≡ end
unfolding ended
ended_is d e = grind arith

else-spelt : (ns : List (List ℕ)) (d : Body) → SpellsBody (Named ns) d (written_body ns d) →
    ((d ≡ end) × (else_lines_spec d (written_body ns d) ≡ [])) ⊎ ((w : List ℕ) × SpellsBody (Named ns) d w × (else_lines_spec d (written_body ns d) ≡ codes "else" ++ (10 ∷ w)))
else-spelt ns d s = elim (cases_Bool (ended d)) [ inl e ↦ inl (ended_is d e, rw e) | inr e ↦ inr (written_body ns d, s, rw e) ]

pub body-spelt : (ns : List (List ℕ)) (b : Body) → BodyFits (length ns) b → SpellsBody (Named ns) b (written_body ns b)
unfolding BodyFits SpellsBody written_body
body-spelt ns end f = refl
body-spelt ns (put k e b) f = (get_or ns k [], written_expr ns e, written_body ns b, (f.0, refl), expr-spelt ns e f.1, body-spelt ns b f.2, refl)
body-spelt ns (read_shared k e b) f = (get_or ns k [], written_expr ns e, written_body ns b, (f.0, refl), expr-spelt ns e f.1, body-spelt ns b f.2, refl)
body-spelt ns (read_all k e b) f = (get_or ns k [], written_expr ns e, written_body ns b, (f.0, refl), expr-spelt ns e f.1, body-spelt ns b f.2, refl)
body-spelt ns (write_shared e v b) f = (written_expr ns e, written_expr ns v, written_body ns b, expr-spelt ns e f.0, expr-spelt ns v f.1, body-spelt ns b f.2, refl)
body-spelt ns (write_all e v b) f = (written_expr ns e, written_expr ns v, written_body ns b, expr-spelt ns e f.0, expr-spelt ns v f.1, body-spelt ns b f.2, refl)
body-spelt ns (barrier b) f = (written_body ns b, body-spelt ns b f, refl)
body-spelt ns (when e c d b) f =
    (written_expr ns e, written_body ns c, else_lines_spec d (written_body ns d), written_body ns b, expr-spelt ns e f.0, body-spelt ns c f.1, else-spelt ns d (body-spelt ns d f.2), body-spelt ns b f.3, refl)
body-spelt ns (while e c b) f = (written_expr ns e, written_body ns c, written_body ns b, expr-spelt ns e f.0, body-spelt ns c f.1, f.2, body-spelt ns b f.3, refl)

own-spelt : (ns : List (List ℕ)) → OwnLine ns (own_line ns)
own-spelt [] = inl (refl, refl)
own-spelt (u ∷ ns) = inr (λ e. let z : ◌≡◌ {A = ℕ} 0 1 = cc in omega arith, refl)

cells-spelt : (s : ℕ) → s ≤ 16384 → CellsLine s (cells_line_spec s)
cells-spelt s h = elim (cases_Bool (eqb s 0)) [ inl e ↦ inl (eqb-true s 0 e, rw e) | inr e ↦ inr (digits_of s, number-spelt s (omega arith), rw e) ]

pub spelt : (ns : List (List ℕ)) (p : Program) → ((k : ℕ) → k < length ns → IsName (get_or ns k [])) → p.owns ≡ length ns → p.shared ≤ 16384 → BodyFits p.owns p.body →
    Spelled (Named ns) ns p (written ns p)
unfolding written
spelt ns p i o c f = record {
  own_part = own_line ns;
  cells_part = cells_line_spec p.shared;
  body_part = written_body ns p.body;
  whole = refl;
  owned = o;
  own_line = own-spelt ns;
  cells_line = cells-spelt p.shared c;
  names = i;
  body = body-spelt ns p.body (rw o at f);
}
