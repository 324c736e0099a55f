-- A text that is taken, written anew, is taken; and every program in bounds has a text.
use Rattle.std.proofs.Common.{◌≡◌, ℕ, suc, ◌<◌, ◌≤◌, true, eqb, ◌≢◌, List, [], ◌∷◌, ◌++◌, length, get_or, codes, decimal as digits_of, sym, refl, inl, inr, suc-le-suc, zero-le, arith}
use Rattle.std.specs.List.{flat_map}
use Rattle.std.proofs.lemmas.List.{append_assoc, append-nil, length-append}
use Rattle.std.proofs.lemmas.Fmt.{length-decimal-le}
use Rattle.std.proofs.lemmas.Str.Parse.{digits_value_short}
use Rattle.std.proofs.lemmas.Bool.{cases_Bool}
use Rattle.std.proofs.lemmas.Bool.Decides.{nat_tests}
use Rattle.lanes.specs.Syntax.{Expr, fixed, var, lane, group, lanes, plus, minus, times, over, rest_of, less, same, Body, end, put, read_shared, write_shared, read_all, write_all, barrier, when, while, Program, ended}
use Rattle.lanes.specs.Told.{ExprFits, BodyFits}
use Rattle.grammar.specs.Spelling.{digit, word_byte, each_byte, infix_of, IsName, IsNumber, SpellsExpr, SpellsBody, OwnLine, CellsLine, Spelled, Named}
use Rattle.grammar.proofs.Bytewise.{each_append, each_weaken}
use Rattle.writer.specs.Written.{written_expr, written_body, written, else_lines_spec, own_line, cells_line_spec, NoLonger, EveryProgram, Anew, names_in_turn}
use Rattle.writer.proofs.Spelt.{own, number-spelt, spelt}
use Rattle.writer.proofs.Turn.{length-turn, turn-names, turn-distinct}
use Rattle.writer.proofs.Shrinks.{plain, Shrinks, shrinks-none, shrinks-both, shrinks-line, shrinks-away}

digit-plain : (b : ℕ) → digit b ≡ true → plain b ≡ true
digit-plain b e = grind (arith, nat_tests)

word-plain : (b : ℕ) → word_byte b ≡ true → plain b ≡ true
word-plain b e = grind (arith, nat_tests)

-- no longer, and on one line
pub record Shorter (u v : List ℕ) : Type 0 where
  pub flat : each_byte plain u ≡ true
  pub flat_too : each_byte plain v ≡ true
  pub no_longer : length v ≤ length u

pub shorter-same : (u : List ℕ) → each_byte plain u ≡ true → Shorter u u
shorter-same u e = record { flat = e; flat_too = e; no_longer = omega arith }

pub shorter-both : (u v x y : List ℕ) → Shorter u v → Shorter x y → Shorter (u ++ x) (v ++ y)
shorter-both u v x y p q = record {
  flat = each_append plain u x p.flat q.flat;
  flat_too = each_append plain v y p.flat_too q.flat_too;
  no_longer = rw (length-append u x, length-append v y) (omega (arith, p.no_longer, q.no_longer));
}

shorter-infix : (t u v x y : List ℕ) (b : ℕ) → plain b ≡ true → Shorter u v → Shorter x y → t ≡ infix_of u b x → Shorter t (infix_of v b y)
unfolding each_byte
shorter-infix t u v x y b o p q e =
    rw e (shorter-both (40 ∷ []) (40 ∷ []) _ _ (shorter-same (40 ∷ []) refl)
    (shorter-both u v _ _ p (shorter-both (32 ∷ b ∷ 32 ∷ []) (32 ∷ b ∷ 32 ∷ []) _ _ (shorter-same (32 ∷ b ∷ 32 ∷ []) (rw o)) (shorter-both x y (41 ∷ []) (41 ∷ []) q (shorter-same (41 ∷ []) refl)))))

shorter-number : (a : ℕ) (u : List ℕ) → a < 4294967296 → IsNumber a u → Shorter u (digits_of a)
shorter-number a u h i = record {
  flat = each_weaken digit plain digit-plain u i.bytes;
  flat_too = each_weaken digit plain digit-plain (digits_of a) (number-spelt a (omega arith)).bytes;
  no_longer = length-decimal-le (length u) a i.some (let q = digits_value_short own u (length u) i.bytes (omega arith) in rw i.value at q) (omega arith);
}

module _ (ns : List (List ℕ)) (names : (k : ℕ) → k < length ns → IsName (get_or ns k [])) where
  shorter-name : (k : ℕ) (u : List ℕ) → Named ns k u → Shorter u (get_or ns k [])
  shorter-name k u (h, q) = rw q (shorter-same (get_or ns k []) (each_weaken word_byte plain word-plain (get_or ns k []) (names k h).bytes))

  shorter-expr : (e : Expr) (u : List ℕ) → ExprFits (length ns) e → SpellsExpr (Named ns) e u → Shorter u (written_expr ns e)
  unfolding ExprFits SpellsExpr written_expr each_byte
  shorter-expr (fixed a) u f s = shorter-number a u f s
  shorter-expr (var k) u f s = shorter-name k u s
  shorter-expr lane u f s = rw s (shorter-same (codes "lane") refl)
  shorter-expr group u f s = rw s (shorter-same (codes "group") refl)
  shorter-expr lanes u f s = rw s (shorter-same (codes "lanes") refl)
  shorter-expr (plus e g) t f (u, v, p, q, r) = shorter-infix t u (written_expr ns e) v (written_expr ns g) 43 refl (shorter-expr e u f.0 p) (shorter-expr g v f.1 q) r
  shorter-expr (minus e g) t f (u, v, p, q, r) = shorter-infix t u (written_expr ns e) v (written_expr ns g) 45 refl (shorter-expr e u f.0 p) (shorter-expr g v f.1 q) r
  shorter-expr (times e g) t f (u, v, p, q, r) = shorter-infix t u (written_expr ns e) v (written_expr ns g) 42 refl (shorter-expr e u f.0 p) (shorter-expr g v f.1 q) r
  shorter-expr (over e g) t f (u, v, p, q, r) = shorter-infix t u (written_expr ns e) v (written_expr ns g) 47 refl (shorter-expr e u f.0 p) (shorter-expr g v f.1 q) r
  shorter-expr (rest_of e g) t f (u, v, p, q, r) = shorter-infix t u (written_expr ns e) v (written_expr ns g) 37 refl (shorter-expr e u f.0 p) (shorter-expr g v f.1 q) r
  shorter-expr (less e g) t f (u, v, p, q, r) = shorter-infix t u (written_expr ns e) v (written_expr ns g) 60 refl (shorter-expr e u f.0 p) (shorter-expr g v f.1 q) r
  shorter-expr (same e g) t f (u, v, p, q, r) = shorter-infix t u (written_expr ns e) v (written_expr ns g) 61 refl (shorter-expr e u f.0 p) (shorter-expr g v f.1 q) r

  -- one line by its parts
  line : (u v t t' : List ℕ) → Shorter u v → Shrinks t t' → Shrinks (u ++ (10 ∷ t)) (v ++ (10 ∷ t'))
  line u v t t' p q = shrinks-line u v t t' p.flat p.flat_too p.no_longer q

  -- a fixed beginning and an expression, then what is behind
  led : (w u v t t' : List ℕ) → each_byte plain w ≡ true → Shorter u v → Shrinks t t' → Shrinks (w ++ (u ++ (10 ∷ t))) (w ++ (v ++ (10 ∷ t')))
  led w u v t t' e p q = rw (← append_assoc w u (10 ∷ t), ← append_assoc w v (10 ∷ t')) (line (w ++ u) (w ++ v) t t' (shorter-both w w u v (shorter-same w e) p) q)

  -- a name or an expression, a fixed middle, an expression
  two : (a c w u v t t' : List ℕ) → each_byte plain w ≡ true → Shorter a c → Shorter u v → Shrinks t t' → Shrinks (a ++ (w ++ (u ++ (10 ∷ t)))) (c ++ (w ++ (v ++ (10 ∷ t'))))
  two a c w u v t t' e o p q =
      rw (← append_assoc w u (10 ∷ t), ← append_assoc a (w ++ u) (10 ∷ t), ← append_assoc w v (10 ∷ t'), ← append_assoc c (w ++ v) (10 ∷ t'))
      (line (a ++ (w ++ u)) (c ++ (w ++ v)) t t' (shorter-both a c (w ++ u) (w ++ v) o (shorter-both w w u v (shorter-same w e) p)) q)

  three : (o a c w u v t t' : List ℕ) → each_byte plain o ≡ true → each_byte plain w ≡ true → Shorter a c → Shorter u v → Shrinks t t' →
      Shrinks (o ++ (a ++ (w ++ (u ++ (10 ∷ t))))) (o ++ (c ++ (w ++ (v ++ (10 ∷ t')))))
  three o a c w u v t t' i e p q r =
      rw (← append_assoc o a (w ++ (u ++ (10 ∷ t))), ← append_assoc o c (w ++ (v ++ (10 ∷ t'))))
      (two (o ++ a) (o ++ c) w u v t t' e (shorter-both o o a c (shorter-same o i) p) q r)

  ended-end : (d : Body) → ended d ≡ true → written_body ns d ≡ []
  unfolding ended written_body
  ended-end d e = grind arith

  shrink-else : (d : Body) (w : List ℕ) → Shrinks w (written_body ns d) → Shrinks (codes "else" ++ (10 ∷ w)) (else_lines_spec d (written_body ns d))
  unfolding each_byte
  shrink-else d w s =
      elim (cases_Bool (ended d)) [
        | inl e ↦ rw e (shrinks-away (codes "else") w [] refl (rw (ended-end d e) at s))
        | inr e ↦ rw e (line (codes "else") (codes "else") w (written_body ns d) (shorter-same (codes "else") refl) s)
      ]

  shrink-no-else : (d : Body) (y : List ℕ) → d ≡ end → y ≡ [] → Shrinks y (else_lines_spec d (written_body ns d))
  unfolding ended
  shrink-no-else d y p q = rw (p, q) shrinks-none

  shrink-end : (t t' : List ℕ) → Shrinks t t' → Shrinks (codes "end" ++ (10 ∷ t)) (codes "end" ++ (10 ∷ t'))
  unfolding each_byte
  shrink-end t t' s = line (codes "end") (codes "end") t t' (shorter-same (codes "end") refl) s

  shrink-body : (b : Body) (t : List ℕ) → BodyFits (length ns) b → SpellsBody (Named ns) b t → Shrinks t (written_body ns b)
  unfolding BodyFits SpellsBody written_body each_byte
  shrink-body end t f s = rw s shrinks-none
  shrink-body (put k e b) t f (a, u, z, i, s, r, q) = rw q (two a _ (codes " = ") u _ z _ refl (shorter-name k a i) (shorter-expr e u f.1 s) (shrink-body b z f.2 r))
  shrink-body (read_shared k e b) t f (a, u, z, i, s, r, q) = rw q (two a _ (codes " = cell ") u _ z _ refl (shorter-name k a i) (shorter-expr e u f.1 s) (shrink-body b z f.2 r))
  shrink-body (read_all k e b) t f (a, u, z, i, s, r, q) = rw q (two a _ (codes " = field ") u _ z _ refl (shorter-name k a i) (shorter-expr e u f.1 s) (shrink-body b z f.2 r))
  shrink-body (write_shared e g b) t f (u, v, z, s, r, i, q) = rw q (three (codes "cell ") u _ (codes " = ") v _ z _ refl refl (shorter-expr e u f.0 s) (shorter-expr g v f.1 r) (shrink-body b z f.2 i))
  shrink-body (write_all e g b) t f (u, v, z, s, r, i, q) = rw q (three (codes "field ") u _ (codes " = ") v _ z _ refl refl (shorter-expr e u f.0 s) (shorter-expr g v f.1 r) (shrink-body b z f.2 i))
  shrink-body (barrier b) t f (z, r, q) = rw q (line (codes "barrier") (codes "barrier") z _ (shorter-same (codes "barrier") refl) (shrink-body b z f r))
  shrink-body (when e c d b) t f (u, x, y, z, s, cs, inl o, r, q) =
      rw q (led (codes "if ") u _ _ _ refl (shorter-expr e u f.0 s) (shrinks-both x _ _ _ (shrink-body c x f.1 cs) (shrinks-both y _ _ _ (shrink-no-else d y o.0 o.1) (shrink-end z _ (shrink-body b z f.3 r)))))
  shrink-body (when e c d b) t f (u, x, y, z, s, cs, inr (w, ds, o), r, q) =
      rw (q, o) (led (codes "if ") u _ _ _ refl (shorter-expr e u f.0 s) (shrinks-both x _ _ _ (shrink-body c x f.1 cs) (shrinks-both (codes "else" ++ (10 ∷ w)) _ _ _ (shrink-else d w (shrink-body d w f.2 ds)) (shrink-end z _ (shrink-body b z f.3 r)))))
  shrink-body (while e c b) t f (u, x, z, s, cs, ne, r, q) =
      rw q (led (codes "while ") u _ _ _ refl (shorter-expr e u f.0 s) (shrinks-both x _ _ _ (shrink-body c x f.1 cs) (shrink-end z _ (shrink-body b z f.3 r))))

  flat-names : (ms : List (List ℕ)) → ((k : ℕ) → k < length ms → IsName (get_or ms k [])) → each_byte plain (flat_map (λ v. 32 ∷ v) ms) ≡ true
  unfolding each_byte
  flat-names [] i = refl
  flat-names (u ∷ ms) i =
      each_append plain (32 ∷ u) (flat_map (λ v. 32 ∷ v) ms) (each_weaken word_byte plain word-plain u (i 0 (suc-le-suc zero-le)).bytes) (flat-names ms (λ k h. i (suc k) (suc-le-suc h)))

  shrink-names : (ms : List (List ℕ)) → ((k : ℕ) → k < length ms → IsName (get_or ms k [])) → ms ≢ [] → Shrinks (codes "own" ++ (flat_map (λ u. 32 ∷ u) ms ++ (10 ∷ []))) (own_line ms)
  unfolding each_byte
  shrink-names [] i h = absurd (h refl)
  shrink-names (u ∷ ms) i h = led (codes "own") _ _ [] [] refl (shorter-same (flat_map (λ v. 32 ∷ v) (u ∷ ms)) (flat-names (u ∷ ms) i)) shrinks-none

  shrink-own : (t : List ℕ) → OwnLine ns t → Shrinks t (own_line ns)
  shrink-own t (inl p) = rw (p.1, p.0) shrinks-none
  shrink-own t (inr p) = rw p.1 (shrink-names ns names p.0)

  shrink-cells : (s : ℕ) (t : List ℕ) → s ≤ 16384 → CellsLine s t → Shrinks t (cells_line_spec s)
  unfolding each_byte
  shrink-cells s t h (inl p) = rw (p.1, p.0) shrinks-none
  shrink-cells s t h (inr (u, i, q)) =
      let n = shorter-number s u (omega arith) i in
      elim (cases_Bool (eqb s 0)) [
        | inl e ↦ rw (q, e) (rw (← append_assoc (codes "cells ") u (10 ∷ [])) (shrinks-away (codes "cells " ++ u) [] [] (each_append plain (codes "cells ") u refl n.flat) shrinks-none))
        | inr e ↦ rw (q, e) (led (codes "cells ") u (digits_of s) [] [] refl n shrinks-none)
      ]

no_longer : (text new : List ℕ) → Shrinks text new → NoLonger text new
no_longer text new s = record { fewer = s.fewer; within = λ m h. rw append-nil at (s.short m [] [] (λ e. e) (rw (append-nil text) h)) }

pub shrunk-anew : (ns : List (List ℕ)) (p : Program) (text : List ℕ) → p.shared ≤ 16384 → BodyFits p.owns p.body → Spelled (Named ns) ns p text → NoLonger text (written ns p)
unfolding written
shrunk-anew ns p text c f s =
    no_longer text (own_line ns ++ (cells_line_spec p.shared ++ written_body ns p.body))
    (rw s.whole
    (shrinks-both s.own_part (own_line ns) _ _ (shrink-own ns s.names s.own_part s.own_line)
    (shrinks-both s.cells_part (cells_line_spec p.shared) _ _ (shrink-cells ns s.names p.shared s.cells_part c s.cells_line) (shrink-body ns s.names p.body s.body_part (rw s.owned at f) s.body))))

pub anew : Anew
anew ns p text t =
    let s = t.spelled in
    let r = shrunk-anew ns p text t.few_cells t.fits s in (
      record {
        spelled = spelt ns p s.names s.owned t.few_cells t.fits;
        distinct = t.distinct;
        few_names = t.few_names;
        few_cells = t.few_cells;
        fits = t.fits;
        few_lines = omega (arith, r.fewer, t.few_lines);
        short = r.within 1024 t.short;
        shallow = t.shallow;
      },
      r,
    )

pub every-program : EveryProgram
every-program p b = record {
  spelled = spelt (names_in_turn p.owns) p (turn-names p.owns b.few_names) (sym (length-turn p.owns)) b.few_cells b.fits;
  distinct = turn-distinct p.owns b.few_names;
  few_names = rw (length-turn p.owns) b.few_names;
  few_cells = b.few_cells;
  fits = b.fits;
  few_lines = b.few_lines;
  short = b.short;
  shallow = b.shallow;
}
