-- An expression that is spelled at a byte is read there, to its end.
use Rattle.std.proofs.Common.{◌≡◌, ℕ, zero, suc, ◌+◌, ◌-◌, ◌<◌, ◌≤◌, max, true, false, List, [], ◌∷◌, ◌++◌, length, get_or, drop, Some, None, Ok, codes, Option, refl, ap, ◌∙◌, arith}
use Rattle.std.proofs.lemmas.List.{append_assoc, length-append}
use Rattle.std.proofs.lemmas.Bool.{lt-ltb}
use Rattle.std.proofs.lemmas.Bool.Decides.{nat_tests}
use Rattle.lanes.specs.Syntax.{Expr, fixed, var, lane, group, lanes, plus, minus, times, over, rest_of, less, same}
use Rattle.lanes.specs.Told.{ExprFits}
use Rattle.grammar.specs.Spelling.{letter, digit, word_byte, each_byte, decimal, IsName, IsNumber, infix_of, SpellsExpr}
use Rattle.grammar.specs.Stands.{Apart}
use Rattle.grammar.specs.Runs.{written}
use Rattle.grammar.specs.Walk.{key_of, word_atom, some_token, atom_at, operator_at, is_operator_spec, is_atom_spec, expr_at, and_then, number_part}
use Rattle.grammar.specs.declared.keywords.Keyword.{Keyword}
use Rattle.grammar.specs.declared.keywords.Keyword.TheVariants.{Lane, Group, Lanes}
use Rattle.grammar.proofs.Walks.{key-written}
use Rattle.grammar.proofs.Scanned.{byte_at}
use Rattle.grammar.proofs.Complete.{first_byte, past, past-byte, bytes-done, run-here, part-here, key-free, byte_of, word-done, digit-not_letter, not-open}

-- how many brackets are open at a time
unfoldable pub brackets : Expr → ℕ
brackets (fixed a) = 0
brackets (var k) = 0
brackets lane = 0
brackets group = 0
brackets lanes = 0
brackets (plus e f) = suc (max (brackets e) (brackets f))
brackets (minus e f) = suc (max (brackets e) (brackets f))
brackets (times e f) = suc (max (brackets e) (brackets f))
brackets (over e f) = suc (max (brackets e) (brackets f))
brackets (rest_of e f) = suc (max (brackets e) (brackets f))
brackets (less e f) = suc (max (brackets e) (brackets f))
brackets (same e f) = suc (max (brackets e) (brackets f))

digit-word : (b : ℕ) → digit b ≡ true → word_byte b ≡ true
digit-word b h = grind (arith, nat_tests)

letter-word : (b : ℕ) → letter b ≡ true → word_byte b ≡ true
letter-word b h = grind (arith, nat_tests)

apart-digit : (b : ℕ) → word_byte b ≡ false → digit b ≡ false
apart-digit b h = grind (arith, nat_tests)

module _ (find : List ℕ → Option ℕ) (text : List ℕ) where
  -- what reads u wherever it stands
  abbrev pub ReadsAtom : List ℕ → Type 0
  ReadsAtom u = (i : ℕ) (z : List ℕ) → drop i text ≡ u ++ z → Apart z → atom_at find text i ≡ Ok (i + length u)

  abbrev pub ReadsExpr : ℕ → List ℕ → Type 0
  ReadsExpr n u = (i : ℕ) (z : List ℕ) → drop i text ≡ u ++ z → Apart z → expr_at find text n i ≡ Ok (i + length u)

  pub number_done : (a : ℕ) (u : List ℕ) → IsNumber a u → a < 4294967296 → ReadsAtom u
  unfolding atom_at
  number_done a u h l i z e p =
      let d : digit (get_or u 0 0) ≡ true = byte_at digit u 0 h.bytes h.some in
      let q : digit (get_or z 0 0) ≡ false = apart-digit (get_or z 0 0) p in
      let v : number_part text i ≡ a = ap (λ w. decimal 0 w) (part-here digit text i u z h.bytes q e) ∙ h.value in
      rw (byte_of text i u z h.some e, d, v, lt-ltb a 4294967296 l, run-here digit text i u z h.bytes q e) refl

  word-done-atom : (k : Option Keyword) (o : Option ℕ) (u : List ℕ) → 1 ≤ length u → letter (get_or u 0 0) ≡ true → each_byte word_byte u ≡ true → length u ≤ 8 → key_of u ≡ k → find u ≡ o
      → ((i j : ℕ) → and_then (some_token k o i j) (λ t. word_atom t.word t.end) ≡ Ok j) → ReadsAtom u
  unfolding atom_at
  word-done-atom k o u s b y l p q ok i z e a =
      rw (byte_of text i u z s e, digit-not_letter (get_or u 0 0) b, word-done find text i u z s b y l e a k o p q) (ok i (i + length u))

  pub name_done : (u : List ℕ) (m : ℕ) → IsName u → find u ≡ Some m → ReadsAtom u
  name_done u m h f = word-done-atom None (Some m) u h.some h.begins h.bytes h.short (key-free u h.free) f (λ i j. refl)

  key-atom : (k : Keyword) → is_atom_spec k ≡ true → 1 ≤ length (written k) → letter (get_or (written k) 0 0) ≡ true → each_byte word_byte (written k) ≡ true → length (written k) ≤ 8 → ReadsAtom (written k)
  key-atom k h s b y l = word-done-atom (Some k) (find (written k)) (written k) s b y l (key-written k) refl (λ i j. rw h refl)

  lane_done : ReadsAtom (codes "lane")
  unfolding each_byte
  lane_done = key-atom Lane refl (omega arith) refl refl (omega arith)

  group-done : ReadsAtom (codes "group")
  unfolding each_byte
  group-done = key-atom Group refl (omega arith) refl refl (omega arith)

  lanes-done : ReadsAtom (codes "lanes")
  unfolding each_byte
  lanes-done = key-atom Lanes refl (omega arith) refl refl (omega arith)

  -- an atom is an expression
  lifted : (n : ℕ) (u : List ℕ) → 1 ≤ length u → word_byte (get_or u 0 0) ≡ true → ReadsAtom u → ReadsExpr n u
  unfolding expr_at
  lifted zero u s w r i z e a = rw (byte_of text i u z s e, not-open (get_or u 0 0) w) (r i z e a)
  lifted (suc n) u s w r i z e a = rw (byte_of text i u z s e, not-open (get_or u 0 0) w) (r i z e a)

  pub operator-done : (i op : ℕ) (z : List ℕ) → is_operator_spec op ≡ true → drop i text ≡ 32 ∷ op ∷ 32 ∷ z → operator_at text i ≡ Ok (i + 3)
  unfolding operator_at each_byte
  operator-done i op z o e =
      let e1 : drop (i + 1) text ≡ op ∷ 32 ∷ z = past-byte text i 32 _ e in
      let e2 : drop ((i + 1) + 1) text ≡ 32 ∷ z = past-byte text (i + 1) op _ e1 in
      rw (bytes-done text i (32 ∷ []) _ refl e, first_byte text (i + 1) op _ e1, o) (bytes-done text ((i + 1) + 1) (32 ∷ []) z refl e2 ∙ ap (λ m. Ok m) (omega arith))

  pub binary-done : (n op : ℕ) (u v : List ℕ) → is_operator_spec op ≡ true → ReadsExpr n u → ReadsExpr n v → ReadsExpr (suc n) (infix_of u op v)
  unfolding expr_at each_byte
  binary-done n op u v o ru rv i z e a =
      let x0 : drop i text ≡ 40 ∷ (u ++ (32 ∷ op ∷ 32 ∷ (v ++ (41 ∷ z)))) = e ∙ ap (λ t. 40 ∷ t) (append_assoc u (32 ∷ op ∷ 32 ∷ (v ++ (41 ∷ []))) z ∙ ap (λ t. u ++ (32 ∷ op ∷ 32 ∷ t)) (append_assoc v (41 ∷ []) z)) in
      let x1 : drop (i + 1) text ≡ u ++ (32 ∷ op ∷ 32 ∷ (v ++ (41 ∷ z))) = past-byte text i 40 _ x0 in
      let x2 : drop ((i + 1) + length u) text ≡ 32 ∷ op ∷ 32 ∷ (v ++ (41 ∷ z)) = past text (i + 1) u _ x1 in
      let x3 : drop (((i + 1) + length u) + 3) text ≡ v ++ (41 ∷ z) = past text ((i + 1) + length u) (32 ∷ op ∷ 32 ∷ []) _ x2 in
      let x4 : drop ((((i + 1) + length u) + 3) + length v) text ≡ 41 ∷ z = past text (((i + 1) + length u) + 3) v _ x3 in
      let len : length (infix_of u op v) ≡ 1 + (length u + (3 + (length v + 1))) = omega (arith, length-append u (32 ∷ op ∷ 32 ∷ (v ++ (41 ∷ []))), length-append v (41 ∷ [])) in
      rw (first_byte text i 40 _ x0, ru (i + 1) _ x1 refl, operator-done ((i + 1) + length u) op _ o x2, rv (((i + 1) + length u) + 3) _ x3 refl)
      (bytes-done text ((((i + 1) + length u) + 3) + length v) (41 ∷ []) z refl x4 ∙ ap (λ m. Ok m) (omega (arith, len)))

  binary-n : (n m op : ℕ) (u v : List ℕ) → is_operator_spec op ≡ true → suc m ≤ n → ReadsExpr (n - 1) u → ReadsExpr (n - 1) v → ReadsExpr n (infix_of u op v)
  binary-n zero m op u v o h ru rv = absurd (omega arith)
  binary-n (suc n) m op u v o h ru rv = let q : suc n - 1 ≡ n = omega arith in binary-done n op u v o (rw q at ru) (rw q at rv)

  module _ (N : ℕ → List ℕ → Type 0) (named : (k : ℕ) (u : List ℕ) → N k u → IsName u) (found : (k : ℕ) (u : List ℕ) → N k u → (m : ℕ) × (find u ≡ Some m)) (o : ℕ) where
    pub expr-done : (e : Expr) (n : ℕ) (u : List ℕ) → SpellsExpr N e u → ExprFits o e → brackets e ≤ n → ReadsExpr n u
    unfolding SpellsExpr ExprFits brackets each_byte
    expr-done (fixed a) n u s f b = lifted n u s.some (digit-word (get_or u 0 0) (byte_at digit u 0 s.bytes s.some)) (number_done a u s f)
    expr-done (var k) n u s f b = let h = named k u s in lifted n u h.some (letter-word (get_or u 0 0) h.begins) (name_done u (found k u s).0 h (found k u s).1)
    expr-done lane n u s f b = rw s (lifted n (codes "lane") (omega arith) refl lane_done)
    expr-done group n u s f b = rw s (lifted n (codes "group") (omega arith) refl group-done)
    expr-done lanes n u s f b = rw s (lifted n (codes "lanes") (omega arith) refl lanes-done)
    expr-done (plus e g) n t s f b = rw s.4 (binary-n n _ 43 s.0 s.1 refl b (expr-done e (n - 1) s.0 s.2 f.0 (omega arith)) (expr-done g (n - 1) s.1 s.3 f.1 (omega arith)))
    expr-done (minus e g) n t s f b = rw s.4 (binary-n n _ 45 s.0 s.1 refl b (expr-done e (n - 1) s.0 s.2 f.0 (omega arith)) (expr-done g (n - 1) s.1 s.3 f.1 (omega arith)))
    expr-done (times e g) n t s f b = rw s.4 (binary-n n _ 42 s.0 s.1 refl b (expr-done e (n - 1) s.0 s.2 f.0 (omega arith)) (expr-done g (n - 1) s.1 s.3 f.1 (omega arith)))
    expr-done (over e g) n t s f b = rw s.4 (binary-n n _ 47 s.0 s.1 refl b (expr-done e (n - 1) s.0 s.2 f.0 (omega arith)) (expr-done g (n - 1) s.1 s.3 f.1 (omega arith)))
    expr-done (rest_of e g) n t s f b = rw s.4 (binary-n n _ 37 s.0 s.1 refl b (expr-done e (n - 1) s.0 s.2 f.0 (omega arith)) (expr-done g (n - 1) s.1 s.3 f.1 (omega arith)))
    expr-done (less e g) n t s f b = rw s.4 (binary-n n _ 60 s.0 s.1 refl b (expr-done e (n - 1) s.0 s.2 f.0 (omega arith)) (expr-done g (n - 1) s.1 s.3 f.1 (omega arith)))
    expr-done (same e g) n t s f b = rw s.4 (binary-n n _ 61 s.0 s.1 refl b (expr-done e (n - 1) s.0 s.2 f.0 (omega arith)) (expr-done g (n - 1) s.1 s.3 f.1 (omega arith)))
