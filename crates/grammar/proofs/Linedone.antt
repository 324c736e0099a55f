-- A line that stands at a byte is read there, as that line.
use Rattle.std.proofs.Common.{◌≡◌, ℕ, suc, ◌≤◌, max, Bool, true, false, eqb, List, [], ◌∷◌, ◌++◌, length, drop, None, codes, sym, refl, ap, ◌∙◌, arith}
use Rattle.std.proofs.lemmas.List.{length-append}
use Rattle.std.proofs.lemmas.Bool.{and_parts, ne_eqb}
use Rattle.std.proofs.lemmas.Bool.Decides.{nat_tests}
use Rattle.lanes.specs.Syntax.{Expr, fixed, var, lane, group, lanes, plus, minus, times, over, rest_of, less, same}
use Rattle.grammar.specs.Spelling.{digit, word_byte, each_byte, same_bytes, IsName, IsNumber, infix_of, SpellsExpr}
use Rattle.grammar.specs.Stands.{Apart}
use Rattle.grammar.specs.Runs.{run_of}
use Rattle.grammar.specs.Walk.{key_of, key_at}
use Rattle.grammar.specs.WalkLine.{cell_kind_spec}
use Rattle.grammar.specs.declared.keywords.Keyword.TheVariants as kw
use Rattle.grammar.proofs.Runs.{run-stop}
use Rattle.grammar.proofs.Walks.{key-written}
use Rattle.grammar.proofs.Complete.{part-here, key-free}
use Rattle.grammar.proofs.Spelled.{brackets}

-- fewer brackets than bytes
module _ (N : ℕ → List ℕ → Type 0) where
  infix-long : (u v : List ℕ) (op m n : ℕ) → m ≤ length u → n ≤ length v → suc (max m n) ≤ length (infix_of u op v)
  infix-long u v op m n h k = omega (arith, length-append u (32 ∷ op ∷ 32 ∷ (v ++ (41 ∷ []))), length-append v (41 ∷ []))

  pub brackets-few : (e : Expr) (u : List ℕ) → SpellsExpr N e u → brackets e ≤ length u
  unfolding SpellsExpr brackets
  brackets-few (fixed a) u s = omega arith
  brackets-few (var k) u s = omega arith
  brackets-few lane u s = omega arith
  brackets-few group u s = omega arith
  brackets-few lanes u s = omega arith
  brackets-few (plus e f) u s = rw s.4 (infix-long s.0 s.1 43 _ _ (brackets-few e s.0 s.2) (brackets-few f s.1 s.3))
  brackets-few (minus e f) u s = rw s.4 (infix-long s.0 s.1 45 _ _ (brackets-few e s.0 s.2) (brackets-few f s.1 s.3))
  brackets-few (times e f) u s = rw s.4 (infix-long s.0 s.1 42 _ _ (brackets-few e s.0 s.2) (brackets-few f s.1 s.3))
  brackets-few (over e f) u s = rw s.4 (infix-long s.0 s.1 47 _ _ (brackets-few e s.0 s.2) (brackets-few f s.1 s.3))
  brackets-few (rest_of e f) u s = rw s.4 (infix-long s.0 s.1 37 _ _ (brackets-few e s.0 s.2) (brackets-few f s.1 s.3))
  brackets-few (less e f) u s = rw s.4 (infix-long s.0 s.1 60 _ _ (brackets-few e s.0 s.2) (brackets-few f s.1 s.3))
  brackets-few (same e f) u s = rw s.4 (infix-long s.0 s.1 61 _ _ (brackets-few e s.0 s.2) (brackets-few f s.1 s.3))

-- an expression does not begin with the word cell or field
digit-unlike : (b c : ℕ) → digit b ≡ true → 58 ≤ c → eqb c b ≡ false
digit-unlike b c h l = ne_eqb c b (λ e. let d : digit c ≡ true = rw e h in let n : digit c ≡ false = grind (arith, nat_tests) in let z : ◌≡◌ {A = Bool} true false = sym d ∙ n in grind arith)

key-digit : (b : ℕ) (u : List ℕ) → digit b ≡ true → key_of (b ∷ u) ≡ None
unfolding key_of same_bytes
key-digit b u h =
    rw (
      digit-unlike b 111 h (omega arith),
      digit-unlike b 99 h (omega arith),
      digit-unlike b 102 h (omega arith),
      digit-unlike b 98 h (omega arith),
      digit-unlike b 105 h (omega arith),
      digit-unlike b 101 h (omega arith),
      digit-unlike b 119 h (omega arith),
      digit-unlike b 108 h (omega arith),
      digit-unlike b 103 h (omega arith),
    ) refl

key-number : (a : ℕ) (u : List ℕ) → IsNumber a u → key_of u ≡ None
unfolding each_byte
key-number a [] s = absurd (omega (arith, s.some))
key-number a (b ∷ u) s = key-digit b u (and_parts (digit b) (each_byte digit u) s.bytes).0

digits-word : (u : List ℕ) → each_byte digit u ≡ true → each_byte word_byte u ≡ true
unfolding each_byte
digits-word [] h = refl
digits-word (b ∷ u) h =
    let p = and_parts (digit b) (each_byte digit u) h in
    let q : word_byte b ≡ true = let d : digit b ≡ true = p.0 in grind (arith, nat_tests) in
    rw (q, digits-word u p.1) refl

key-nothing : key_of [] ≡ None
unfolding key_of same_bytes
key-nothing = refl

module _ (text : List ℕ) (i : ℕ) (z : List ℕ) (a : Apart z) (N : ℕ → List ℕ → Type 0) (named : (k : ℕ) (u : List ℕ) → N k u → IsName u) where
  key-open : (u v : List ℕ) (op : ℕ) (t : List ℕ) → t ≡ infix_of u op v → drop i text ≡ t ++ z → cell_kind_spec (key_at text i) ≡ None
  key-open u v op t q e =
      let x : drop i text ≡ 40 ∷ ((u ++ (32 ∷ op ∷ 32 ∷ (v ++ (41 ∷ [])))) ++ z) = e ∙ ap (λ w. w ++ z) q in
      let r : run_of word_byte (drop i text) ≡ 0 = ap (λ w. run_of word_byte w) x ∙ run-stop word_byte 40 _ refl in
      ap cell_kind_spec (ap key_of (rw r refl) ∙ key-nothing)

  pub no_cell : (e : Expr) (u : List ℕ) → SpellsExpr N e u → drop i text ≡ u ++ z → cell_kind_spec (key_at text i) ≡ None
  unfolding SpellsExpr each_byte
  no_cell (fixed n) u s q = ap cell_kind_spec (ap key_of (part-here word_byte text i u z (digits-word u s.bytes) a q) ∙ key-number n u s)
  no_cell (var k) u s q = let h = named k u s in ap cell_kind_spec (ap key_of (part-here word_byte text i u z h.bytes a q) ∙ key-free u h.free)
  no_cell lane u s q = ap cell_kind_spec (ap key_of (part-here word_byte text i (codes "lane") z refl a (rw s at q)) ∙ key-written kw.Lane)
  no_cell group u s q = ap cell_kind_spec (ap key_of (part-here word_byte text i (codes "group") z refl a (rw s at q)) ∙ key-written kw.Group)
  no_cell lanes u s q = ap cell_kind_spec (ap key_of (part-here word_byte text i (codes "lanes") z refl a (rw s at q)) ∙ key-written kw.Lanes)
  no_cell (plus e f) u s q = key-open s.0 s.1 43 u s.4 q
  no_cell (minus e f) u s q = key-open s.0 s.1 45 u s.4 q
  no_cell (times e f) u s q = key-open s.0 s.1 42 u s.4 q
  no_cell (over e f) u s q = key-open s.0 s.1 47 u s.4 q
  no_cell (rest_of e f) u s q = key-open s.0 s.1 37 u s.4 q
  no_cell (less e f) u s q = key-open s.0 s.1 60 u s.4 q
  no_cell (same e f) u s q = key-open s.0 s.1 61 u s.4 q
