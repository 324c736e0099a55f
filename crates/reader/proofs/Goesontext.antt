-- A whole text's refusal for its shape stands on the bytes up to its place.
use Rattle.std.proofs.Common.{◌≡◌, ℕ, suc, ◌+◌, ◌-◌, ◌≤◌, Bool, true, false, leb, ◌⊎◌, List, [], ◌++◌, length, drop, Some, None, Ok, Err, codes, Option, Result, sym, refl, ap, ◌∙◌, inl, inr, arith}
use Rattle.std.proofs.lemmas.Bool.{cases_Bool}
use Rattle.grammar.specs.Spelling.{word_byte}
use Rattle.grammar.specs.Runs.{run_of, written}
use Rattle.grammar.specs.Walk.{word_part, key_at, bytes_at, and_then, place_in}
use Rattle.grammar.specs.declared.refusals.Refusal.{Refusal}
use Rattle.grammar.specs.declared.refusals.Refusal.TheVariants.{Shape as No-text}
use Rattle.grammar.specs.declared.keywords.Keyword.{Keyword}
use Rattle.grammar.specs.declared.keywords.Keyword.TheVariants as kw
use Rattle.grammar.proofs.Walks.{bytes-more}
use Rattle.grammar.proofs.Complete.{first_byte, past-byte}
use Rattle.grammar.proofs.Sound.{cond_cases, then-parts, same_ok, run-splits, run_length, key-sound}
use Rattle.grammar.proofs.Goeson.{Agree}
use Rattle.grammar.proofs.Goesonexpr.{bytes_same}
use Rattle.grammar.proofs.Goesonline.{next_of, then-fails, Reach, reach-more, key-same, line-reach-ok, line-reach-err}
use Rattle.reader.specs.Heads.{is_own_spec, is_cells_spec, names_at, own_at, Found, cells_at}
use Rattle.reader.specs.Blocks.{next_at, by_kind, kind_of_spec, block_at, must_as}
use Rattle.reader.specs.Texts.{read_at, head_lines_spec, whole, shape_of}
use Rattle.reader.specs.declared.heads.Head.{Head}
use Rattle.reader.specs.declared.blocks.Ending.{Ending}
use Rattle.reader.specs.declared.blocks.Ending.TheVariants.{Text, Else, End}
use Rattle.reader.specs.declared.blocks.Stop.{Stop}
use Rattle.reader.specs.declared.texts.Shape.{Shape}
use Rattle.reader.proofs.Goesonsame.{stop_at, stop_of, block_same, by-kind-same}
use Rattle.reader.proofs.Goesonclosed.{next-err, next-ok}
use Rattle.reader.proofs.Goesonlocal.{found_of, head_of, Refused, err-then, names_same, cells_here, cells-here-same, number_at, number_same}

cells-key : (k : Option Keyword) → is_cells_spec k ≡ true → k ≡ Some kw.Cells
cells-key None h = let z : ◌≡◌ {A = ℕ} 0 1 = cc in absurd (omega arith)
cells-key (Some kw.Own) h = let z : ◌≡◌ {A = ℕ} 0 1 = cc in absurd (omega arith)
cells-key (Some kw.Cells) h = refl
cells-key (Some kw.Cell) h = let z : ◌≡◌ {A = ℕ} 0 1 = cc in absurd (omega arith)
cells-key (Some kw.Field) h = let z : ◌≡◌ {A = ℕ} 0 1 = cc in absurd (omega arith)
cells-key (Some kw.Barrier) h = let z : ◌≡◌ {A = ℕ} 0 1 = cc in absurd (omega arith)
cells-key (Some kw.If) h = let z : ◌≡◌ {A = ℕ} 0 1 = cc in absurd (omega arith)
cells-key (Some kw.Else) h = let z : ◌≡◌ {A = ℕ} 0 1 = cc in absurd (omega arith)
cells-key (Some kw.End) h = let z : ◌≡◌ {A = ℕ} 0 1 = cc in absurd (omega arith)
cells-key (Some kw.While) h = let z : ◌≡◌ {A = ℕ} 0 1 = cc in absurd (omega arith)
cells-key (Some kw.Lane) h = let z : ◌≡◌ {A = ℕ} 0 1 = cc in absurd (omega arith)
cells-key (Some kw.Group) h = let z : ◌≡◌ {A = ℕ} 0 1 = cc in absurd (omega arith)
cells-key (Some kw.Lanes) h = let z : ◌≡◌ {A = ℕ} 0 1 = cc in absurd (omega arith)

own_key : (k : Option Keyword) → is_own_spec k ≡ true → k ≡ Some kw.Own
own_key None h = let z : ◌≡◌ {A = ℕ} 0 1 = cc in absurd (omega arith)
own_key (Some kw.Own) h = refl
own_key (Some kw.Cells) h = let z : ◌≡◌ {A = ℕ} 0 1 = cc in absurd (omega arith)
own_key (Some kw.Cell) h = let z : ◌≡◌ {A = ℕ} 0 1 = cc in absurd (omega arith)
own_key (Some kw.Field) h = let z : ◌≡◌ {A = ℕ} 0 1 = cc in absurd (omega arith)
own_key (Some kw.Barrier) h = let z : ◌≡◌ {A = ℕ} 0 1 = cc in absurd (omega arith)
own_key (Some kw.If) h = let z : ◌≡◌ {A = ℕ} 0 1 = cc in absurd (omega arith)
own_key (Some kw.Else) h = let z : ◌≡◌ {A = ℕ} 0 1 = cc in absurd (omega arith)
own_key (Some kw.End) h = let z : ◌≡◌ {A = ℕ} 0 1 = cc in absurd (omega arith)
own_key (Some kw.While) h = let z : ◌≡◌ {A = ℕ} 0 1 = cc in absurd (omega arith)
own_key (Some kw.Lane) h = let z : ◌≡◌ {A = ℕ} 0 1 = cc in absurd (omega arith)
own_key (Some kw.Group) h = let z : ◌≡◌ {A = ℕ} 0 1 = cc in absurd (omega arith)
own_key (Some kw.Lanes) h = let z : ◌≡◌ {A = ℕ} 0 1 = cc in absurd (omega arith)

-- a word of the language at byte i: how long it is, and that it stands there
key-run : (text : List ℕ) (i : ℕ) (k : Keyword) → key_at text i ≡ Some k → run_of word_byte (drop i text) ≡ length (written k)
key-run text i k e = sym (run_length word_byte text i) ∙ ap length (key-sound (word_part text i) k e)

key_here : (text : List ℕ) (i : ℕ) (k : Keyword) → key_at text i ≡ Some k → drop i text ≡ written k ++ drop (i + run_of word_byte (drop i text)) text
key_here text i k e = run-splits word_byte text i ∙ ap (λ w. w ++ drop (i + run_of word_byte (drop i text)) text) (key-sound (word_part text i) k e)

-- behind the word cells
five : (text : List ℕ) (z : List ℕ) (i : ℕ) → drop i text ≡ codes "cells" ++ z → bytes_at text (codes "cells ") i ≡ bytes_at text (codes " ") (((((i + 1) + 1) + 1) + 1) + 1)
five text z i e =
    let e1 = past-byte text i 99 _ e in
    let e2 = past-byte text (i + 1) 101 _ e1 in
    let e3 = past-byte text ((i + 1) + 1) 108 _ e2 in
    let e4 = past-byte text (((i + 1) + 1) + 1) 108 _ e3 in
    bytes-more text (codes "ells ") 99 i (first_byte text i 99 _ e) (λ y. omega (arith, y))
    ∙ bytes-more text (codes "lls ") 101 (i + 1) (first_byte text (i + 1) 101 _ e1) (λ y. omega (arith, y))
    ∙ bytes-more text (codes "ls ") 108 ((i + 1) + 1) (first_byte text ((i + 1) + 1) 108 _ e2) (λ y. omega (arith, y))
    ∙ bytes-more text (codes "s ") 108 (((i + 1) + 1) + 1) (first_byte text (((i + 1) + 1) + 1) 108 _ e3) (λ y. omega (arith, y))
    ∙ bytes-more text (codes " ") 115 ((((i + 1) + 1) + 1) + 1) (first_byte text ((((i + 1) + 1) + 1) + 1) 115 _ e4) (λ y. omega (arith, y))

whole-place : (E : Ending) (x : Stop) (q : ℕ) → must_as Text E x ≡ Err (No-text q) → (stop_at E x ≤ q) × (E ≡ Text → ⊥)
whole-place Text x q e = let z : ◌≡◌ {A = ℕ} 0 1 = cc in absurd (omega arith)
whole-place Else x q e = let n : x.next - 1 ≡ q = cc in (omega arith, λ p. let z : ◌≡◌ {A = ℕ} 0 1 = cc in omega arith)
whole-place End x q e = let n : x.next - 1 ≡ q = cc in (omega arith, λ p. let z : ◌≡◌ {A = ℕ} 0 1 = cc in omega arith)

module _ (text t : List ℕ) where
  -- the first word of a block is seen to its end, or to its ninth byte
  block-reach-err : (find : List ℕ → Option ℕ) (f deep left i q : ℕ) (some : Bool) → block_at find text (suc f) deep left i some ≡ Err (No-text q) → Reach find text i q
  unfolding block_at
  block-reach-err find f deep left i q some e =
      elim (cond_cases (leb (length text) i) _ _ (Err (No-text q)) e) [
        | inl p ↦ let x = p.1 in let z : ◌≡◌ {A = ℕ} 0 1 = cc in absurd (omega arith)
        | inr p ↦
            elim (then-fails (next_at find text deep left i) (λ l. by_kind (block_at find text f) deep left i some (kind_of_spec l.line) l.next) (No-text q) p.1) [
              | inl a ↦ line-reach-err find text i q (next-err text find deep left i q a)
              | inr a ↦
                  reach-more find text i (next_of a.0) q
                  ((by-kind-same find text text (block_at find text f) (block_at find text f) (block_same find text text f) (kind_of_spec a.0.line) deep left i a.0.next some).err q a.2).0
                  (line-reach-ok find text i a.0 (next-ok text find deep left i a.0 a.1).0)
            ]
      ]

  block-reach-ok : (find : List ℕ → Option ℕ) (f deep left i : ℕ) (some : Bool) (x : Stop) → block_at find text (suc f) deep left i some ≡ Ok x → (x.ending ≡ Text) ⊎ Reach find text i (stop_of x)
  unfolding block_at
  block-reach-ok find f deep left i some x e =
      elim (cond_cases (leb (length text) i) (Ok (record { ending = Text; some = some; pos = i; next = i; left = left })) (and_then (next_at find text deep left i) (λ l. by_kind (block_at find text f) deep left i some (kind_of_spec l.line) l.next)) (Ok x) e) [
        | inl p ↦ inl (sym (ap (λ (s : Stop). s.ending) (same_ok (record { ending = Text; some = some; pos = i; next = i; left = left }) x p.1)))
        | inr p ↦
            let a = then-parts (next_at find text deep left i) (λ l. by_kind (block_at find text f) deep left i some (kind_of_spec l.line) l.next) x p.1 in
            inr (reach-more find text i (next_of a.0) (stop_of x)
            ((by-kind-same find text text (block_at find text f) (block_at find text f) (block_same find text text f) (kind_of_spec a.0.line) deep left i a.0.next some).ok x a.2).0
            (line-reach-ok find text i a.0 (next-ok text find deep left i a.0 a.1).0))
      ]

  -- the lines of the body
  abbrev lines_at : List ℕ → Found → Head → Result Shape Refusal
  lines_at s f h = and_then (block_at (place_in f.names) s 1025 16 (1024 - head_lines_spec f.next h.next) h.next false) (λ x. and_then (whole x) (λ e. Ok (shape_of f h e)))

  ended : (f : Found) (h : Head) (x : Stop) (q : ℕ) → and_then (whole x) (λ e. Ok (shape_of f h e)) ≡ Err (No-text q) → whole x ≡ Err (No-text q)
  ended f h x q e = elim (then-fails (whole x) (λ e. Ok (shape_of f h e)) (No-text q) e) [ inl a ↦ a | inr a ↦ let y = a.2 in let z : ◌≡◌ {A = ℕ} 0 1 = cc in absurd (omega arith) ]

  lines-err : (f : Found) (h : Head) (q : ℕ) → lines_at text f h ≡ Err (No-text q) → Refused text t h.next q (lines_at t f h)
  lines-err f h q e =
      err-then text t stop_of h.next q (block_at (place_in f.names) text 1025 16 (1024 - head_lines_spec f.next h.next) h.next false) (block_at (place_in f.names) t 1025 16 (1024 - head_lines_spec f.next h.next) h.next false) _ _
      (block_same (place_in f.names) text t 1025 16 (1024 - head_lines_spec f.next h.next) h.next false)
      (λ x _ a. ((whole-place x.ending x q (ended f h x q a)).0, λ _. a)) e

  lines-reach : (f : Found) (h : Head) (q : ℕ) → lines_at text f h ≡ Err (No-text q) → Reach (place_in f.names) text h.next q
  lines-reach f h q e =
      elim (then-fails (block_at (place_in f.names) text 1025 16 (1024 - head_lines_spec f.next h.next) h.next false) (λ x. and_then (whole x) (λ e. Ok (shape_of f h e))) (No-text q) e) [
        | inl a ↦ block-reach-err (place_in f.names) 1024 16 (1024 - head_lines_spec f.next h.next) h.next q false a
        | inr a ↦
            let w = whole-place a.0.ending a.0 q (ended f h a.0 q a.2) in
            elim (block-reach-ok (place_in f.names) 1024 16 (1024 - head_lines_spec f.next h.next) h.next false a.0 a.1)
            [ inl y ↦ absurd (w.1 y) | inr y ↦ reach-more (place_in f.names) text h.next (stop_of a.0) q w.0 y ]
      ]

  -- what is behind the own line
  abbrev rest_at : List ℕ → Found → Result Shape Refusal
  rest_at s f = and_then (cells_at s f.next) (λ h. lines_at s f h)

  cells_is : (s : List ℕ) (i : ℕ) → is_cells_spec (key_at s i) ≡ true → cells_at s i ≡ cells_here text t s i
  unfolding cells_at
  cells_is s i h = rw h refl

  cells-not : (s : List ℕ) (i : ℕ) → is_cells_spec (key_at s i) ≡ false → cells_at s i ≡ Ok (record { many = 0; next = i })
  unfolding cells_at
  cells-not s i h = rw h refl

  abbrev RestRefused : Found → ℕ → Type 0
  RestRefused f q = Reach (place_in f.names) text f.next q × (Agree q text t → rest_at t f ≡ Err (No-text q))

  behind : (f : Found) (q : ℕ) → key_at text f.next ≡ Some kw.Cells → and_then (cells_here text t text f.next) (λ m. lines_at text f m) ≡ Err (No-text q) → ((((f.next + 1) + 1) + 1) + 1) + 1 ≤ q
  behind f q k e =
      let i : ℕ = f.next in
      let j : ℕ = ((((i + 1) + 1) + 1) + 1) + 1 in
      let b : bytes_at text (codes "cells ") i ≡ bytes_at text (codes " ") j = five text _ i (key_here text i kw.Cells k) in
      elim (then-fails (cells_here text t text i) (λ m. lines_at text f m) (No-text q) e) [
        | inl a ↦
            elim (then-fails (bytes_at text (codes "cells ") i) (λ m. number_at text t text i m) (No-text q) a) [
              | inl c ↦ ((bytes_same text text (codes " ") j).err q (sym b ∙ c)).0
              | inr c ↦ let x = ((bytes_same text text (codes " ") j).ok c.0 (sym b ∙ c.1)).0 in let y = ((number_same text text i c.0).err q c.2).0 in omega (arith, x, y)
            ]
        | inr a ↦
            let c = then-parts (bytes_at text (codes "cells ") i) (λ m. number_at text t text i m) a.0 a.1 in
            let x = ((bytes_same text text (codes " ") j).ok c.0 (sym b ∙ c.1)).0 in
            let y = ((number_same text text i c.0).ok a.0 c.2).0 in
            let z = (lines-err f a.0 q a.2).0 in
            omega (arith, x, y, z)
      ]

  with_cells : (f : Found) (q : ℕ) → is_cells_spec (key_at text f.next) ≡ true → rest_at text f ≡ Err (No-text q) → RestRefused f q
  with_cells f q h e =
      let i : ℕ = f.next in
      let k : key_at text i ≡ Some kw.Cells = cells-key (key_at text i) h in
      let e1 : and_then (cells_here text t text i) (λ m. lines_at text f m) ≡ Err (No-text q) = rw (cells_is text i h) at e in
      let r = err-then text t head_of i q (cells_here text t text i) (cells_here text t t i) (λ m. lines_at text f m) (λ m. lines_at t f m) (cells-here-same text t i)
      (λ m _ a. let l = lines-err f m q a in let y : head_of m ≤ q = omega (arith, l.0) in (y, l.1)) e1 in
      let far : ((((i + 1) + 1) + 1) + 1) + 1 ≤ q = behind f q k e1 in
      let rc : Reach (place_in f.names) text i q = inl (omega (arith, key-run text i kw.Cells k)) in
      (rc, λ a. rw (cells_is t i (ap is_cells_spec (key-same (place_in f.names) text t i q rc a) ∙ h)) (r.1 a))

  without-cells : (f : Found) (q : ℕ) → is_cells_spec (key_at text f.next) ≡ false → rest_at text f ≡ Err (No-text q) → RestRefused f q
  without-cells f q h e =
      let i : ℕ = f.next in
      let e1 : lines_at text f (record { many = 0; next = i }) ≡ Err (No-text q) = rw (cells-not text i h) at e in
      let rc = lines-reach f (record { many = 0; next = i }) q e1 in
      (rc, λ a. rw (cells-not t i (ap is_cells_spec (key-same (place_in f.names) text t i q rc a) ∙ h)) ((lines-err f (record { many = 0; next = i }) q e1).1 a))

  rest-err : (f : Found) (q : ℕ) → rest_at text f ≡ Err (No-text q) → RestRefused f q
  rest-err f q e = elim (cases_Bool (is_cells_spec (key_at text f.next))) [ inl h ↦ with_cells f q h e | inr h ↦ without-cells f q h e ]

  -- the whole text
  own_is : (s : List ℕ) → is_own_spec (key_at s 0) ≡ true → own_at s ≡ names_at s 66 [] 3
  unfolding own_at
  own_is s h = rw h refl

  own-not : (s : List ℕ) → is_own_spec (key_at s 0) ≡ false → own_at s ≡ Ok (record { names = []; next = 0 })
  unfolding own_at
  own-not s h = rw h refl

  read_is : (s : List ℕ) → read_at s ≡ and_then (own_at s) (λ f. rest_at s f)
  unfolding read_at
  read_is s = refl

  rest_from : (f : Found) (q : ℕ) → rest_at text f ≡ Err (No-text q) → f.next ≤ q
  rest_from f q e = from-reach (rest-err f q e).0
    where
      from-reach : Reach (place_in f.names) text f.next q → f.next ≤ q
      from-reach (inl h) = omega arith
      from-reach (inr (inl h)) = omega (arith, h.1)
      from-reach (inr (inr h)) = h.1

  with_own : (q : ℕ) → is_own_spec (key_at text 0) ≡ true → and_then (own_at text) (λ f. rest_at text f) ≡ Err (No-text q) → Agree q text t → and_then (own_at t) (λ f. rest_at t f) ≡ Err (No-text q)
  with_own q h e a =
      let k : key_at text 0 ≡ Some kw.Own = own_key (key_at text 0) h in
      let e1 : and_then (names_at text 66 [] 3) (λ f. rest_at text f) ≡ Err (No-text q) = rw (own_is text h) at e in
      let r = err-then text t found_of 3 q (names_at text 66 [] 3) (names_at t 66 [] 3) (λ f. rest_at text f) (λ f. rest_at t f) (names_same text t 66 [] 3)
      (λ f _ x. let y : found_of f ≤ q = omega (arith, rest_from f q x) in (y, (rest-err f q x).1)) e1 in
      let rc : Reach (λ u. None) text 0 q = inl (omega (arith, key-run text 0 kw.Own k, r.0)) in
      rw (own_is t (ap is_own_spec (key-same (λ u. None) text t 0 q rc a) ∙ h)) (r.1 a)

  without-own : (q : ℕ) → is_own_spec (key_at text 0) ≡ false → and_then (own_at text) (λ f. rest_at text f) ≡ Err (No-text q) → Agree q text t → and_then (own_at t) (λ f. rest_at t f) ≡ Err (No-text q)
  without-own q h e a =
      let e1 : rest_at text (record { names = []; next = 0 }) ≡ Err (No-text q) = rw (own-not text h) at e in
      let r = rest-err (record { names = []; next = 0 }) q e1 in
      rw (own-not t (ap is_own_spec (key-same (place_in []) text t 0 q r.0 a) ∙ h)) (r.1 a)

  pub read_same : (q : ℕ) → read_at text ≡ Err (No-text q) → Agree q text t → read_at t ≡ Err (No-text q)
  read_same q e a =
      let e1 : and_then (own_at text) (λ f. rest_at text f) ≡ Err (No-text q) = sym (read_is text) ∙ e in
      read_is t ∙ elim (cases_Bool (is_own_spec (key_at text 0))) [ inl h ↦ with_own q h e1 a | inr h ↦ without-own q h e1 a ]
