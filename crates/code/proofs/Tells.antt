-- What a line tells of the body that stands there, and where the lines behind it stand.
use Rattle.std.proofs.Common.{◌≡◌, ℕ, ◌+◌, ◌≤◌, Bool, true, false, List, [], ◌∷◌, ◌++◌, length, drop, Some, codes, Option, refl, ap, ◌∙◌, arith}
use Rattle.std.proofs.lemmas.List.{length-drop}
use Rattle.lanes.specs.Syntax.{Expr, fixed, var, lane, group, lanes, plus, minus, times, over, rest_of, less, same}
use Rattle.grammar.specs.declared.keywords.Keyword.{Keyword}
use Rattle.grammar.specs.declared.keywords.Keyword.TheVariants.{Cell, Field, If, While}
use Rattle.grammar.specs.Spelling.{word_byte, digit, each_byte, IsName, infix_of, SpellsExpr, Named}
use Rattle.grammar.specs.Stands.{Stands}
use Rattle.grammar.proofs.Bytewise.{digit-word, each_append, each_weaken, named-names}
use Rattle.code.specs.declared.scan.Line.{Line}
use Rattle.code.specs.declared.scan.Line.TheVariants.{Put, Read, Write, Test, Loop}
use Rattle.code.specs.Scan.{in_line, Scan, WriteScan, EndsAt}
use Rattle.code.specs.Make.{Names, NextLine}
use Rattle.code.proofs.Texts.{drop-on}
use Rattle.code.proofs.Exprs.{word-in_line}
use Rattle.code.proofs.Heads.{keyword-scan, named-scan, value-keyword, value-expr}

-- An expression stands in one line.
infix-in_line : (u v : List ℕ) (op : ℕ) → in_line op ≡ true → each_byte in_line u ≡ true → each_byte in_line v ≡ true → each_byte in_line (infix_of u op v) ≡ true
unfolding each_byte
infix-in_line u v op h p q =
    each_append in_line (40 ∷ []) (u ++ (32 ∷ op ∷ 32 ∷ (v ++ (41 ∷ [])))) refl
    (each_append in_line u (32 ∷ op ∷ 32 ∷ (v ++ (41 ∷ []))) p
    (each_append in_line (32 ∷ op ∷ 32 ∷ []) (v ++ (41 ∷ [])) (rw h) (each_append in_line v (41 ∷ []) q refl)))

module _ (N : ℕ → List ℕ → Type 0) (names : (k : ℕ) (u : List ℕ) → N k u → IsName u) where
  part : (e f : Expr) (op : ℕ) (t u v : List ℕ) → t ≡ infix_of u op v → in_line op ≡ true → each_byte in_line u ≡ true → each_byte in_line v ≡ true → each_byte in_line t ≡ true
  part e f op t u v q h p r = rw q (infix-in_line u v op h p r)

  expr-in-line : (e : Expr) (t : List ℕ) → SpellsExpr N e t → each_byte in_line t ≡ true
  unfolding SpellsExpr each_byte
  expr-in-line (fixed a) t s = each_weaken word_byte in_line word-in_line t (each_weaken digit word_byte digit-word t s.bytes)
  expr-in-line (var k) t s = each_weaken word_byte in_line word-in_line t (names k t s).bytes
  expr-in-line lane t s = ap (each_byte in_line) s
  expr-in-line group t s = ap (each_byte in_line) s
  expr-in-line lanes t s = ap (each_byte in_line) s
  expr-in-line (plus e f) t s = part e f 43 t s.0 s.1 s.4 refl (expr-in-line e s.0 s.2) (expr-in-line f s.1 s.3)
  expr-in-line (minus e f) t s = part e f 45 t s.0 s.1 s.4 refl (expr-in-line e s.0 s.2) (expr-in-line f s.1 s.3)
  expr-in-line (times e f) t s = part e f 42 t s.0 s.1 s.4 refl (expr-in-line e s.0 s.2) (expr-in-line f s.1 s.3)
  expr-in-line (over e f) t s = part e f 47 t s.0 s.1 s.4 refl (expr-in-line e s.0 s.2) (expr-in-line f s.1 s.3)
  expr-in-line (rest_of e f) t s = part e f 37 t s.0 s.1 s.4 refl (expr-in-line e s.0 s.2) (expr-in-line f s.1 s.3)
  expr-in-line (less e f) t s = part e f 60 t s.0 s.1 s.4 refl (expr-in-line e s.0 s.2) (expr-in-line f s.1 s.3)
  expr-in-line (same e f) t s = part e f 61 t s.0 s.1 s.4 refl (expr-in-line e s.0 s.2) (expr-in-line f s.1 s.3)

-- The next line begins behind a line of the text.
pub next_is : (text u t : List ℕ) (i n : ℕ) → NextLine text i n → drop i text ≡ u ++ (10 ∷ t) → each_byte in_line u ≡ true → drop n text ≡ t
unfolding NextLine
next_is text u t i n h e q = h u t e q

module _ (ns : List (List ℕ)) (text : List ℕ) (names : Names ns text) where
  the-names : (k : ℕ) (u : List ℕ) → Named ns k u → IsName u
  the-names = named-names ns names.there.names

  pub in-one-line : (e : Expr) (u : List ℕ) → SpellsExpr (Named ns) e u → each_byte in_line u ≡ true
  unfolding the-names
  in-one-line = expr-in-line (Named ns) the-names

  pub named-in-line : (k : ℕ) (a : List ℕ) → Named ns k a → each_byte in_line a ≡ true
  unfolding the-names
  named-in-line k a n = each_weaken word_byte in_line word-in_line a (the-names k a n).bytes

  -- An expression before the end of a line.
  stands-last : (e : Expr) (u t : List ℕ) (x : ℕ) → SpellsExpr (Named ns) e u → drop x text ≡ u ++ (10 ∷ t) → Stands (Named ns) text x e
  stands-last e u t x s h = record { spelling = u; behind = 10 ∷ t; spells = s; here = h; apart = refl }

  module _ (at : ℕ) (r : Option Line) (scan : Scan text at r) where
    pub put-line : (k : ℕ) (e : Expr) (a u t : List ℕ) → Named ns k a → SpellsExpr (Named ns) e u → drop at text ≡ a ++ (codes " = " ++ (u ++ (10 ∷ t)))
        → (x : ℕ) × Stands (Named ns) text x e × (r ≡ Some (Put k x))
    put-line k e a u t n s h =
        let v = named-scan ns text a (u ++ (10 ∷ t)) at k r names n scan h in
        let st = stands-last e u t v.0 s v.4 in
        (v.0, st, v.2 ∙ ap Some (value-expr ns text k v.0 v.1 e names v.3 st))

    pub read-line : (k : ℕ) (e : Expr) (a u t : List ℕ) → Named ns k a → SpellsExpr (Named ns) e u → drop at text ≡ a ++ (codes " = cell " ++ (u ++ (10 ∷ t)))
        → (x : ℕ) × Stands (Named ns) text x e × (r ≡ Some (Read false k x))
    read-line k e a u t n s h =
        let v = named-scan ns text a (codes "cell" ++ (32 ∷ (u ++ (10 ∷ t)))) at k r names n scan h in
        let w = value-keyword text (u ++ (10 ∷ t)) k v.0 v.1 Cell v.3 v.4 in
        (w.0 + 1, stands-last e u t (w.0 + 1) s w.2, v.2 ∙ ap Some w.1)

    pub read-line-field : (k : ℕ) (e : Expr) (a u t : List ℕ) → Named ns k a → SpellsExpr (Named ns) e u → drop at text ≡ a ++ (codes " = field " ++ (u ++ (10 ∷ t)))
        → (x : ℕ) × Stands (Named ns) text x e × (r ≡ Some (Read true k x))
    read-line-field k e a u t n s h =
        let v = named-scan ns text a (codes "field" ++ (32 ∷ (u ++ (10 ∷ t)))) at k r names n scan h in
        let w = value-keyword text (u ++ (10 ∷ t)) k v.0 v.1 Field v.3 v.4 in
        (w.0 + 1, stands-last e u t (w.0 + 1) s w.2, v.2 ∙ ap Some w.1)

    -- A cell is written: two expressions.
    two : (f : Bool) (j : Keyword) (e g : Expr) (u v t : List ℕ) (stop : ℕ) → SpellsExpr (Named ns) e u → SpellsExpr (Named ns) g v → drop stop text ≡ 32 ∷ (u ++ (codes " = " ++ (v ++ (10 ∷ t))))
        → WriteScan text f (stop + 1) r → (x : ℕ) × (y : ℕ) × Stands (Named ns) text x e × Stands (Named ns) text y g × (r ≡ Some (Write f x y))
    unfolding EndsAt
    two f j e g u v t stop s p h w =
        let on : drop (stop + 1) text ≡ u ++ (codes " = " ++ (v ++ (10 ∷ t))) = drop-on text (32 ∷ []) _ stop (stop + 1) h refl in
        let long : stop + 1 ≤ length text = omega (arith, ap length h, length-drop stop text) in
        let st : Stands (Named ns) text (stop + 1) e = record { spelling = u; behind = codes " = " ++ (v ++ (10 ∷ t)); spells = s; here = on; apart = refl } in
        let y = w long in
        let q : drop y.0 text ≡ codes " = " ++ (v ++ (10 ∷ t)) = y.1 ns e names.there.names st in
        (stop + 1, y.0 + 3, st, stands-last g v t (y.0 + 3) p (drop-on text (codes " = ") (v ++ (10 ∷ t)) y.0 (y.0 + 3) q refl), y.2)

    pub write-line : (e g : Expr) (u v t : List ℕ) → SpellsExpr (Named ns) e u → SpellsExpr (Named ns) g v → drop at text ≡ codes "cell " ++ (u ++ (codes " = " ++ (v ++ (10 ∷ t))))
        → (x : ℕ) × (y : ℕ) × Stands (Named ns) text x e × Stands (Named ns) text y g × (r ≡ Some (Write false x y))
    write-line e g u v t s p h =
        let k = keyword-scan text (32 ∷ (u ++ (codes " = " ++ (v ++ (10 ∷ t))))) at r Cell scan h refl in
        two false Cell e g u v t k.0 s p (drop-on text (codes "cell") _ at k.0 h k.1) k.2

    pub write-line-field : (e g : Expr) (u v t : List ℕ) → SpellsExpr (Named ns) e u → SpellsExpr (Named ns) g v → drop at text ≡ codes "field " ++ (u ++ (codes " = " ++ (v ++ (10 ∷ t))))
        → (x : ℕ) × (y : ℕ) × Stands (Named ns) text x e × Stands (Named ns) text y g × (r ≡ Some (Write true x y))
    write-line-field e g u v t s p h =
        let k = keyword-scan text (32 ∷ (u ++ (codes " = " ++ (v ++ (10 ∷ t))))) at r Field scan h refl in
        two true Field e g u v t k.0 s p (drop-on text (codes "field") _ at k.0 h k.1) k.2

    pub test-line : (e : Expr) (u t : List ℕ) → SpellsExpr (Named ns) e u → drop at text ≡ codes "if " ++ (u ++ (10 ∷ t)) → (x : ℕ) × Stands (Named ns) text x e × (r ≡ Some (Test x))
    test-line e u t s h =
        let k = keyword-scan text (32 ∷ (u ++ (10 ∷ t))) at r If scan h refl in
        (k.0 + 1, stands-last e u t (k.0 + 1) s (drop-on text (32 ∷ []) _ k.0 (k.0 + 1) (drop-on text (codes "if") _ at k.0 h k.1) refl), k.2)

    pub loop-line : (e : Expr) (u t : List ℕ) → SpellsExpr (Named ns) e u → drop at text ≡ codes "while " ++ (u ++ (10 ∷ t)) → (x : ℕ) × Stands (Named ns) text x e × (r ≡ Some (Loop x))
    loop-line e u t s h =
        let k = keyword-scan text (32 ∷ (u ++ (10 ∷ t))) at r While scan h refl in
        (k.0 + 1, stands-last e u t (k.0 + 1) s (drop-on text (32 ∷ []) _ k.0 (k.0 + 1) (drop-on text (codes "while") _ at k.0 h k.1) refl), k.2)
