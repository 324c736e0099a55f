-- What is read as an expression spells one, whose numbers are below 2^32.
use Rattle.std.proofs.Common.{◌≡◌, ℕ, zero, suc, ◌+◌, ◌<◌, ◌≤◌, Bool, true, false, eqb, ltb, List, [], ◌∷◌, ◌++◌, length, get_or, take, drop, Some, Ok, Option, sym, refl, ap, ◌∙◌, inl, inr, arith}
use Rattle.std.proofs.lemmas.List.{append_assoc}
use Rattle.std.proofs.lemmas.Bool.{or_cases, ltb-true, eqb-true}
use Rattle.lanes.specs.Syntax.{fixed, var, lane, group, lanes, plus, minus, times, over, rest_of, less, same}
use Rattle.lanes.specs.Told.{ExprFits}
use Rattle.grammar.specs.Spelling.{digit, infix_of, SpellsExpr}
use Rattle.grammar.specs.Runs.{run_of, written}
use Rattle.grammar.specs.Walk.{word_part, word_at, word_atom, bytes_at, atom_at, operator_at, is_operator_spec, is_atom_spec, expr_at, number_part}
use Rattle.grammar.specs.Lines.{SomeExpr}
use Rattle.grammar.specs.declared.refusals.Refusal.TheVariants.{Shape, Large, Long}
use Rattle.grammar.specs.declared.keywords.Keyword.{Keyword}
use Rattle.grammar.specs.declared.keywords.Keyword.TheVariants.{Own, Cells, Cell, Field, Barrier, If, Else, End, While, Lane, Group, Lanes}
use Rattle.grammar.specs.declared.tokens.Word.{Word}
use Rattle.grammar.specs.declared.tokens.Word.TheVariants as word
use Rattle.grammar.proofs.Walks.{run-each}
use Rattle.grammar.proofs.Sound.{cond_cases, then-parts, not_err, same_ok, peel, bytes-sound, run-splits, run_length, run-some, WordSays, word_sound}

pub operator-sound : (text : List ℕ) (i j : ℕ) → operator_at text i ≡ Ok j → (op : ℕ) × (is_operator_spec op ≡ true) × (drop i text ≡ 32 ∷ op ∷ 32 ∷ drop j text)
unfolding operator_at
operator-sound text i j e =
    let p = then-parts (bytes_at text (32 ∷ []) i) _ j e in
    let s = bytes-sound text (32 ∷ []) i p.0 p.1 in
    elim (cond_cases (is_operator_spec (get_or text p.0 0)) _ _ (Ok j) p.2) [
      | inl q ↦
          let n : (get_or text p.0 0 ≡ 0 → ⊥) = λ z. let f : ◌≡◌ {A = Bool} true false = sym q.0 ∙ ap is_operator_spec z in grind arith in
          let t = bytes-sound text (32 ∷ []) (p.0 + 1) j q.1 in
          (get_or text p.0 0, q.0, s.0 ∙ ap (λ m. 32 ∷ m) (peel text p.0 n ∙ ap (λ m. get_or text p.0 0 ∷ m) t.0))
      | inr q ↦ absurd (not_err (Shape p.0) j q.1)
    ]

module _ (find : List ℕ → Option ℕ) (text : List ℕ) (N : ℕ → List ℕ → Type 0) (o : ℕ) (finds : (k : ℕ) (u : List ℕ) → find u ≡ Some k → N k u × (k < o)) where
  -- an expression stands from i up to j
  pub record ReadExpr (i j : ℕ) : Type 0 where
    pub spelling : List ℕ
    pub is : SomeExpr N o text spelling
    pub here : drop i text ≡ spelling ++ drop j text
    pub end_is : j ≡ i + length spelling

  number_sound : (i : ℕ) → digit (get_or text i 0) ≡ true → ltb (number_part text i) 4294967296 ≡ true → ReadExpr i (i + run_of digit (drop i text))
  unfolding SpellsExpr ExprFits
  number_sound i d l =
      let n : 1 ≤ run_of digit (drop i text) = run-some digit text i refl d in
      let m : length (take (run_of digit (drop i text)) (drop i text)) ≡ run_of digit (drop i text) = run_length digit text i in
      record {
        spelling = take (run_of digit (drop i text)) (drop i text);
        is = (fixed (number_part text i), record { some = omega arith; bytes = run-each digit (drop i text); value = refl }, ltb-true _ _ l);
        here = run-splits digit text i;
        end_is = omega arith;
      }

  key_expr : (k : Keyword) (u : List ℕ) → is_atom_spec k ≡ true → u ≡ written k → SomeExpr N o text u
  unfolding SpellsExpr ExprFits
  key_expr Own u h e = let f : ◌≡◌ {A = Bool} false true = h in absurd (let z : ◌≡◌ {A = ℕ} 0 1 = cc in omega arith)
  key_expr Cells u h e = let f : ◌≡◌ {A = Bool} false true = h in absurd (let z : ◌≡◌ {A = ℕ} 0 1 = cc in omega arith)
  key_expr Cell u h e = let f : ◌≡◌ {A = Bool} false true = h in absurd (let z : ◌≡◌ {A = ℕ} 0 1 = cc in omega arith)
  key_expr Field u h e = let f : ◌≡◌ {A = Bool} false true = h in absurd (let z : ◌≡◌ {A = ℕ} 0 1 = cc in omega arith)
  key_expr Barrier u h e = let f : ◌≡◌ {A = Bool} false true = h in absurd (let z : ◌≡◌ {A = ℕ} 0 1 = cc in omega arith)
  key_expr If u h e = let f : ◌≡◌ {A = Bool} false true = h in absurd (let z : ◌≡◌ {A = ℕ} 0 1 = cc in omega arith)
  key_expr Else u h e = let f : ◌≡◌ {A = Bool} false true = h in absurd (let z : ◌≡◌ {A = ℕ} 0 1 = cc in omega arith)
  key_expr End u h e = let f : ◌≡◌ {A = Bool} false true = h in absurd (let z : ◌≡◌ {A = ℕ} 0 1 = cc in omega arith)
  key_expr While u h e = let f : ◌≡◌ {A = Bool} false true = h in absurd (let z : ◌≡◌ {A = ℕ} 0 1 = cc in omega arith)
  key_expr Lane u h e = (lane, e, tt)
  key_expr Group u h e = (group, e, tt)
  key_expr Lanes u h e = (lanes, e, tt)

  word_expr : (w : Word) (u : List ℕ) (j m : ℕ) → WordSays find u w → word_atom w j ≡ Ok m → (j ≡ m) × SomeExpr N o text u
  unfolding SpellsExpr ExprFits
  word_expr (word.Own k) u j m s e = (same_ok j m e, (var k, (finds k u s.1).0, (finds k u s.1).1))
  word_expr (word.Key k) u j m s e =
      elim (cond_cases (is_atom_spec k) _ _ (Ok m) e) [ inl p ↦ (same_ok j m p.1, key_expr k u p.0 s) | inr p ↦ absurd (not_err (Shape j) m p.1) ]

  atom_sound : (i j : ℕ) → atom_at find text i ≡ Ok j → ReadExpr i j
  unfolding atom_at
  atom_sound i j e =
      elim (cond_cases (digit (get_or text i 0)) _ _ (Ok j) e) [
        | inl p ↦ elim (cond_cases (ltb (number_part text i) 4294967296) _ _ (Ok j) p.1)
            [ inl q ↦ let r : i + run_of digit (drop i text) ≡ j = same_ok _ j q.1 in rw r at (number_sound i p.0 q.0) | inr q ↦ absurd (not_err (Large i) j q.1) ]
        | inr p ↦
            let t = then-parts (word_at find text i) _ j p.1 in
            let w = word_sound find text i t.0 t.1 in
            let x = word_expr t.0.word (word_part text i) t.0.end j w.says t.2 in
            record { spelling = word_part text i; is = x.1; here = w.here ∙ ap (λ m. word_part text i ++ drop m text) x.0; end_is = sym x.0 ∙ w.end_is }
      ]

  binary_expr : (op : ℕ) (u v : List ℕ) → is_operator_spec op ≡ true → SomeExpr N o text u → SomeExpr N o text v → SomeExpr N o text (infix_of u op v)
  unfolding SpellsExpr ExprFits
  binary_expr op u v h (e, s, f) (g, t, k) =
      elim (or_cases (eqb op 43) _ h) [
        | inl p ↦ (plus e g, (u, v, s, t, ap (λ m. infix_of u m v) (eqb-true op 43 p)), (f, k))
        | inr h1 ↦
            elim (or_cases (eqb op 45) _ h1) [
              | inl p ↦ (minus e g, (u, v, s, t, ap (λ m. infix_of u m v) (eqb-true op 45 p)), (f, k))
              | inr h2 ↦
                  elim (or_cases (eqb op 42) _ h2) [
                    | inl p ↦ (times e g, (u, v, s, t, ap (λ m. infix_of u m v) (eqb-true op 42 p)), (f, k))
                    | inr h3 ↦
                        elim (or_cases (eqb op 47) _ h3) [
                          | inl p ↦ (over e g, (u, v, s, t, ap (λ m. infix_of u m v) (eqb-true op 47 p)), (f, k))
                          | inr h4 ↦
                              elim (or_cases (eqb op 37) _ h4) [
                                | inl p ↦ (rest_of e g, (u, v, s, t, ap (λ m. infix_of u m v) (eqb-true op 37 p)), (f, k))
                                | inr h5 ↦
                                    elim (or_cases (eqb op 60) _ h5) [
                                      | inl p ↦ (less e g, (u, v, s, t, ap (λ m. infix_of u m v) (eqb-true op 60 p)), (f, k))
                                      | inr p ↦
                                          (same e g, (u, v, s, t, ap (λ m. infix_of u m v) (eqb-true op 61 p)), (f, k))
                                    ]
                              ]
                        ]
                  ]
            ]
      ]

  length-append : (u v : List ℕ) → length (u ++ v) ≡ length u + length v
  length-append [] v = omega arith
  length-append (b ∷ u) v = let h = length-append u v in omega (arith, h)

  three : (text : List ℕ) (i j op : ℕ) → operator_at text i ≡ Ok j → j ≡ i + 3
  unfolding operator_at
  three text i j op e =
      let p = then-parts (bytes_at text (32 ∷ []) i) _ j e in
      let s = bytes-sound text (32 ∷ []) i p.0 p.1 in
      elim (cond_cases (is_operator_spec (get_or text p.0 0)) _ _ (Ok j) p.2)
      [ inl q ↦ omega (arith, s.1, (bytes-sound text (32 ∷ []) (p.0 + 1) j q.1).1) | inr q ↦ absurd (not_err (Shape p.0) j q.1) ]

  open_sound : (i j k l m : ℕ) → get_or text i 0 ≡ 40 → ReadExpr (i + 1) j → operator_at text j ≡ Ok k → ReadExpr k l → bytes_at text (41 ∷ []) l ≡ Ok m → ReadExpr i m
  open_sound i j k l m b x p y q =
      let s = operator-sound text j k p in
      let t = bytes-sound text (41 ∷ []) l m q in
      let u : List ℕ = x.spelling in
      let v : List ℕ = y.spelling in
      let n : (get_or text i 0 ≡ 0 → ⊥) = λ z. omega (arith, b, z) in
      let h : drop i text ≡ 40 ∷ (u ++ (32 ∷ s.0 ∷ 32 ∷ (v ++ (41 ∷ drop m text)))) =
      peel text i n ∙ ap (λ c. c ∷ drop (i + 1) text) b ∙ ap (λ w. 40 ∷ w) (x.here ∙ ap (λ w. u ++ w) (s.2 ∙ ap (λ w. 32 ∷ s.0 ∷ 32 ∷ w) (y.here ∙ ap (λ w. v ++ w) t.0))) in
      record {
        spelling = infix_of u s.0 v;
        is = binary_expr s.0 u v s.1 x.is y.is;
        here = h ∙ ap (λ w. 40 ∷ w) (ap (λ w. u ++ (32 ∷ s.0 ∷ 32 ∷ w)) (sym (append_assoc v (41 ∷ []) (drop m text))) ∙ sym (append_assoc u (32 ∷ s.0 ∷ 32 ∷ (v ++ (41 ∷ []))) (drop m text)));
        end_is = omega (arith, x.end_is, three text j k s.0 p, y.end_is, t.1, length-append u (32 ∷ s.0 ∷ 32 ∷ (v ++ (41 ∷ []))), length-append v (41 ∷ []));
      }

  pub expr_sound : (n i j : ℕ) → expr_at find text n i ≡ Ok j → ReadExpr i j
  unfolding expr_at
  expr_sound zero i j e = elim (cond_cases (eqb (get_or text i 0) 40) _ _ (Ok j) e) [ inl p ↦ absurd (not_err (Long i) j p.1) | inr p ↦ atom_sound i j p.1 ]
  expr_sound (suc n) i j e =
      elim (cond_cases (eqb (get_or text i 0) 40) _ _ (Ok j) e) [
        | inl p ↦
            let a = then-parts (expr_at find text n (i + 1)) _ j p.1 in
            let b = then-parts (operator_at text a.0) _ j a.2 in
            let c = then-parts (expr_at find text n b.0) _ j b.2 in
            open_sound i a.0 b.0 c.0 j (eqb-true (get_or text i 0) 40 p.0) (expr_sound n (i + 1) a.0 a.1) b.1 (expr_sound n b.0 c.0 c.1) c.2
        | inr p ↦ atom_sound i j p.1
      ]
