-- The first word of a line.
use Rattle.std.proofs.Common.{◌≡◌, ℕ, ◌+◌, ◌≤◌, true, false, ◌≢◌, ◌⊎◌, List, [], ◌∷◌, ◌++◌, length, get_or, drop, Some, None, Option, IsSomeAnd, sym, refl, ap, ◌∙◌, subst, inl, inr, arith}
use Rattle.std.specs.List.{between}
use Rattle.std.proofs.lemmas.List.{length-drop}
use Rattle.std.proofs.lemmas.Bool.{true≢false}
use Rattle.lanes.specs.Syntax.{Expr, fixed, var, lane, group, lanes, plus, minus, times, over, rest_of, less, same}
use Rattle.grammar.specs.declared.keywords.Keyword.{Keyword}
use Rattle.grammar.specs.declared.keywords.Keyword.TheVariants.{Cell, Field}
use Rattle.grammar.specs.Spelling.{word_byte, digit, each_byte, same_bytes, one_of, keywords, IsName, SpellsExpr, Named}
use Rattle.grammar.specs.Stands.{Stands, Apart}
use Rattle.grammar.specs.Words.{WordEnd}
use Rattle.grammar.specs.Names.{Distinct, PlaceOf}
use Rattle.grammar.specs.Runs.{written}
use Rattle.grammar.specs.Walk.{key_of}
use Rattle.grammar.proofs.Scanned.{word-ends}
use Rattle.grammar.proofs.Walks.{key-written}
use Rattle.grammar.proofs.Bytewise.{named-names}
use Rattle.code.specs.declared.scan.Line.{Line}
use Rattle.code.specs.declared.scan.Line.TheVariants.{Put}
use Rattle.code.specs.Scan.{WordIs, Scan, ScanBy, NamedScan, NamedBy, ValueScan, value_line}
use Rattle.code.specs.Make.{Names}
use Rattle.code.proofs.Texts.{drop-on, word_at}
use Rattle.code.proofs.Exprs.{form, word, bracket, first_of}

pub each_none : each_byte word_byte [] ≡ true
unfolding each_byte
each_none = refl

written-word : (k : Keyword) → each_byte word_byte (written k) ≡ true
unfolding each_byte
written-word k = grind arith

written-taken : (k : Keyword) → one_of keywords (written k) ≡ true
unfolding one_of keywords same_bytes
written-taken k = grind arith

written-some : (k : Keyword) → 1 ≤ length (written k)
written-some k = grind arith

pub keyword-is : (w : Option Keyword) (u : List ℕ) (k : Keyword) → WordIs w u → u ≡ written k → w ≡ Some k
keyword-is None u k h e = absurd (h k e)
keyword-is (Some j) u k h e = sym (key-written j) ∙ ap key_of (sym h ∙ e) ∙ key-written k

pub name_free : (u : List ℕ) (k : Keyword) → IsName u → u ≢ written k
name_free u k n e = true≢false (sym (written-taken k) ∙ ap (one_of keywords) (sym e) ∙ n.free)

no-keyword : (w : Option Keyword) (u : List ℕ) → ((k : Keyword) → u ≢ written k) → WordIs w u → w ≡ None
no-keyword None u f h = refl
no-keyword (Some k) u f h = absurd (f k h)

pub empty-word : (w : Option Keyword) (u : List ℕ) → u ≡ [] → WordIs w u → w ≡ None
empty-word w u e h = no-keyword w u (λ k q. omega (arith, written-some k, ap length (sym q ∙ e))) h

-- The keyword that a line begins with.
pub keyword-scan : (text t : List ℕ) (at : ℕ) (r : Option Line) (k : Keyword) → Scan text at r → drop at text ≡ written k ++ t → Apart t → (e : ℕ) × (e ≡ at + length (written k)) × ScanBy text at e (Some k) r
keyword-scan text t at r k s h a =
    let u : between at s.stop text ≡ written k = word_at text (written k) t at s.stop s.ends h (written-word k) a in
    let q : s.word ≡ Some k = keyword-is s.word _ k s.is_word u in
    (s.stop, word-ends text at s.stop (written k) t s.ends h (written-word k) a, subst (λ (w : Option Keyword). ScanBy text at s.stop w r) q s.by)

-- The name that a line begins with.
own_is : (ns : List (List ℕ)) (k : ℕ) (a : List ℕ) (o : Option ℕ) → Distinct ns → Named ns k a → PlaceOf ns a o → o ≡ Some k
own_is ns k a None d n p = absurd (p k n.0 (sym n.1))
own_is ns k a (Some j) d n p = ap Some (d j k p.there n.0 (p.is ∙ n.1))

some-and : {A : Type 0} (r : Option A) (P : A → Type 0) → IsSomeAnd r P → (x : A) × (r ≡ Some x) × P x
some-and None P h = absurd h
some-and (Some x) P h = (x, refl, h)

-- A line that is another, and no line.
pub some-other : (r : Option Line) (l k : Line) → r ≡ Some l → (l ≡ k → ⊥) → r ≡ Some k → ⊥
some-other r l k e n q = let s : Some l ≡ Some k = sym e ∙ q in let h : l ≡ k = cc in n h

pub none-other : (r : Option Line) (k : Line) → r ≡ None → r ≡ Some k → ⊥
none-other r k e q = let s : None ≡ Some k = sym e ∙ q in cc

pub named-scan : (ns : List (List ℕ)) (text a t : List ℕ) (at k : ℕ) (r : Option Line) → Names ns text → Named ns k a → Scan text at r → drop at text ≡ a ++ (32 ∷ 61 ∷ 32 ∷ t)
    → (x : ℕ) × (l : Line) × (r ≡ Some l) × ValueScan text k x l × (drop x text ≡ t)
named-scan ns text a t at k r names n s h =
    let name = named-names ns names.there.names k a n in
    let u : between at s.stop text ≡ a = word_at text a _ at s.stop s.ends h name.bytes refl in
    let f : (j : Keyword) → between at s.stop text ≢ written j = λ j q. name_free a j name (sym u ∙ q) in
    let q : s.word ≡ None = no-keyword s.word _ f s.is_word in
    let by : NamedScan text at s.stop r = subst (λ (w : Option Keyword). ScanBy text at s.stop w r) q s.by in
    let p : PlaceOf ns a by.own = subst (λ (v : List ℕ). PlaceOf ns v by.own) u (by.is_own ns names.there) in
    let o : by.own ≡ Some k = own_is ns k a by.own names.distinct n p in
    let e : s.stop ≡ at + length a = word-ends text at s.stop a _ s.ends h name.bytes refl in
    let on : drop s.stop text ≡ 32 ∷ 61 ∷ 32 ∷ t = drop-on text a (32 ∷ 61 ∷ 32 ∷ t) at s.stop h e in
    let long : s.stop + 3 ≤ length text = omega (arith, ap length on, length-drop s.stop text) in
    let v : NamedBy text s.stop (Some k) r = subst (λ (w : Option ℕ). NamedBy text s.stop w r) o by.by in
    let l = some-and r (ValueScan text k (s.stop + 3)) (v long) in
    (s.stop + 3, l.0, l.1, l.2, drop-on text (32 ∷ 61 ∷ 32 ∷ []) t s.stop (s.stop + 3) on refl)

-- Behind the equals sign: a cell is read.
pub value-keyword : (text t : List ℕ) (k x : ℕ) (r : Line) (j : Keyword) → ValueScan text k x r → drop x text ≡ written j ++ (32 ∷ t)
    → (e : ℕ) × (r ≡ value_line k x e (Some j)) × (drop (e + 1) text ≡ t)
value-keyword text t k x r j s h =
    let u : between x s.stop text ≡ written j = word_at text (written j) (32 ∷ t) x s.stop s.ends h (written-word j) refl in
    let q : s.word ≡ Some j = keyword-is s.word _ j s.is_word u in
    let e : s.stop ≡ x + length (written j) = word-ends text x s.stop (written j) (32 ∷ t) s.ends h (written-word j) refl in
    (s.stop, s.is ∙ ap (value_line k x s.stop) q, drop-on text (32 ∷ []) t s.stop (s.stop + 1) (drop-on text (written j) (32 ∷ t) x s.stop h e) refl)

-- No expression is one of these two words.
abbrev CellsWord : Keyword → Type 0
CellsWord j = (j ≡ Cell) ⊎ (j ≡ Field)

no-digits : (j : Keyword) → CellsWord j → each_byte digit (written j) ≡ false
unfolding each_byte
no-digits j c = elim c [ inl p ↦ ap (λ k. each_byte digit (written k)) p | inr p ↦ ap (λ k. each_byte digit (written k)) p ]

cells-first : (j : Keyword) → CellsWord j → (get_or (written j) 0 0 ≡ 99) ⊎ (get_or (written j) 0 0 ≡ 102)
cells-first j c = elim c [ inl p ↦ inl (ap (λ k. get_or (written k) 0 0) p) | inr p ↦ inr (ap (λ k. get_or (written k) 0 0) p) ]

module _ (N : ℕ → List ℕ → Type 0) (names : (k : ℕ) (u : List ℕ) → N k u → IsName u) where
  first-other : (u : List ℕ) (j : Keyword) (b : ℕ) → CellsWord j → get_or u 0 0 ≡ b → b ≢ 99 → b ≢ 102 → u ≢ written j
  first-other u j b c h p q e = elim (cells-first j c) [ inl f ↦ p (sym h ∙ ap (λ v. get_or v 0 0) e ∙ f) | inr f ↦ q (sym h ∙ ap (λ v. get_or v 0 0) e ∙ f) ]

  not-cells : (e : Expr) (u : List ℕ) (j : Keyword) → CellsWord j → SpellsExpr N e u → u ≢ written j
  unfolding SpellsExpr
  not-cells (fixed a) u j c s q = true≢false (sym s.bytes ∙ ap (each_byte digit) q ∙ no-digits j c)
  not-cells (var k) u j c s q = name_free u j (names k u s) q
  not-cells lane u j c s q = first-other u j 108 c (ap (λ v. get_or v 0 0) s) (omega arith) (omega arith) q
  not-cells group u j c s q = first-other u j 103 c (ap (λ v. get_or v 0 0) s) (omega arith) (omega arith) q
  not-cells lanes u j c s q = first-other u j 108 c (ap (λ v. get_or v 0 0) s) (omega arith) (omega arith) q
  not-cells (plus e f) u j c s q = first-other u j 40 c (ap (λ v. get_or v 0 0) s.4) (omega arith) (omega arith) q
  not-cells (minus e f) u j c s q = first-other u j 40 c (ap (λ v. get_or v 0 0) s.4) (omega arith) (omega arith) q
  not-cells (times e f) u j c s q = first-other u j 40 c (ap (λ v. get_or v 0 0) s.4) (omega arith) (omega arith) q
  not-cells (over e f) u j c s q = first-other u j 40 c (ap (λ v. get_or v 0 0) s.4) (omega arith) (omega arith) q
  not-cells (rest_of e f) u j c s q = first-other u j 40 c (ap (λ v. get_or v 0 0) s.4) (omega arith) (omega arith) q
  not-cells (less e f) u j c s q = first-other u j 40 c (ap (λ v. get_or v 0 0) s.4) (omega arith) (omega arith) q
  not-cells (same e f) u j c s q = first-other u j 40 c (ap (λ v. get_or v 0 0) s.4) (omega arith) (omega arith) q

  -- The word at which an expression stands is none of these two.
  expr-word : (text : List ℕ) (x y : ℕ) (e : Expr) (j : Keyword) → CellsWord j → Stands N text x e → WordEnd text x y → between x y text ≢ written j
  expr-word text x y e j c s w q =
      elim (form N names e s.spelling s.spells) [
        | word p n ↦ not-cells e s.spelling j c s.spells (sym (word_at text s.spelling s.behind x y w s.here p s.apart) ∙ q)
        | bracket p n f ↦
            let b : get_or (s.spelling ++ s.behind) 0 0 ≡ 40 = first_of N names s.spelling s.behind n ∙ p in
            let z : between x y text ≡ [] = word_at text [] (s.spelling ++ s.behind) x y w s.here each_none (ap word_byte b) in
            omega (arith, written-some j, ap length (sym q ∙ z))
      ]

value-put : (k x e : ℕ) (w : Option Keyword) → (w ≡ Some Cell → ⊥) → (w ≡ Some Field → ⊥) → value_line k x e w ≡ Put k x
value-put k x e w p q = grind arith

-- An expression stands behind the equals sign.
pub value-expr : (ns : List (List ℕ)) (text : List ℕ) (k x : ℕ) (r : Line) (e : Expr) → Names ns text → ValueScan text k x r → Stands (Named ns) text x e → r ≡ Put k x
value-expr ns text k x r e names v s =
    let no : (j : Keyword) → CellsWord j → v.word ≡ Some j → ⊥ =
    λ j c q. expr-word (Named ns) (named-names ns names.there.names) text x v.stop e j c s v.ends (subst (λ (w : Option Keyword). WordIs w (between x v.stop text)) q v.is_word) in
    v.is ∙ value-put k x v.stop v.word (no Cell (inl refl)) (no Field (inr refl))
