-- A text that has its shape is never refused for it.
use Rattle.std.proofs.Common.{◌≡◌, ℕ, zero, suc, ◌+◌, ◌-◌, ◌<◌, ◌≤◌, true, false, cond, eqb, ltb, leb, ◌≢◌, List, [], ◌∷◌, ◌++◌, length, get_or, take, drop, Some, None, Ok, Err, codes, Option, sym, refl, ap, ◌∙◌, inl, inr, arith}
use Rattle.std.proofs.lemmas.List.{append_assoc, append-nil, length_push, length-drop}
use Rattle.std.proofs.lemmas.Bool.{cases_Bool, lt-leb, leb-false, eq-eqb, ne_eqb}
use Rattle.std.proofs.lemmas.Bool.Decides.{nat_tests}
use Rattle.lanes.specs.Syntax.{Program, Body, end, put, read_shared, write_shared, read_all, write_all, barrier, when, while}
use Rattle.grammar.specs.Spelling.{letter, digit, word_byte, each_byte, decimal, IsName, SpellsBody, OwnLine, CellsLine, Spelled, AnyName}
use Rattle.grammar.specs.Stands.{Apart}
use Rattle.grammar.specs.Runs.{run_of, written}
use Rattle.grammar.specs.Walk.{word_part, key_at, key_of, bytes_at, and_then, place_in}
use Rattle.grammar.specs.declared.refusals.Refusal.TheVariants.{Shape as No-text, Twice, ManyNames, ManyCells, Long}
use Rattle.grammar.specs.declared.keywords.Keyword.{Keyword}
use Rattle.grammar.specs.declared.keywords.Keyword.TheVariants as kw
use Rattle.grammar.proofs.Walks.{key-written, key-past}
use Rattle.grammar.proofs.Scanned.{byte_at}
use Rattle.grammar.proofs.Complete.{first_byte, past, past-byte, bytes-done, run-here, part-here, key-free, byte_of}
use Rattle.grammar.proofs.Goesonright.{Good, good-ok, good-other, good-then, good-cond, no-long}
use Rattle.reader.specs.Heads.{spaced, is_own_spec, is_cells_spec, name_at, names_at, own_at, Found, cells_at}
use Rattle.reader.specs.Blocks.{block_at}
use Rattle.reader.specs.Texts.{read_at, head_lines_spec}
use Rattle.reader.specs.declared.heads.Head.{Head}
use Rattle.reader.specs.declared.blocks.Ending.TheVariants.{Text}
use Rattle.reader.specs.declared.texts.Shape.{Shape}
use Rattle.reader.proofs.Goesonwell.{Stopped, body_reads}

no-twice : (i q : ℕ) → Twice i ≡ No-text q → ⊥
no-twice i q e = let z : ◌≡◌ {A = ℕ} 0 1 = cc in omega arith

no_names : (i q : ℕ) → ManyNames i ≡ No-text q → ⊥
no_names i q e = let z : ◌≡◌ {A = ℕ} 0 1 = cc in omega arith

no_cells : (i q : ℕ) → ManyCells i ≡ No-text q → ⊥
no_cells i q e = let z : ◌≡◌ {A = ℕ} 0 1 = cc in omega arith

apart-digit : (b : ℕ) → word_byte b ≡ false → digit b ≡ false
apart-digit b h = grind (arith, nat_tests)

-- neither of the words that begin the first two lines
pub record Lead (k : Option Keyword) : Type 0 where
  pub no_own : is_own_spec k ≡ false
  pub no_cells : is_cells_spec k ≡ false

apart-spaced : (ns : List (List ℕ)) (z : List ℕ) → Apart (spaced ns ++ (10 ∷ z))
apart-spaced [] z = refl
apart-spaced (n ∷ ns) z = refl

spaced-more : (u : List ℕ) (ns : List (List ℕ)) (z : List ℕ) → spaced (u ∷ ns) ++ z ≡ 32 ∷ (u ++ (spaced ns ++ z))
spaced-more u ns z = ap (λ t. 32 ∷ t) (append_assoc u (spaced ns) z)

module _ (text : List ℕ) where
  key_is : (i : ℕ) (w z : List ℕ) (k : Option Keyword) → each_byte word_byte w ≡ true → Apart z → drop i text ≡ w ++ z → key_of w ≡ k → key_at text i ≡ k
  key_is i w z k b a e q = ap key_of (part-here word_byte text i w z b a e) ∙ q

  name_lead : (i : ℕ) (a z : List ℕ) → IsName a → Apart z → drop i text ≡ a ++ z → Lead (key_at text i)
  name_lead i a z h p e = rw (key_is i a z None h.bytes p e (key-free a h.free)) (record { no_own = refl; no_cells = refl })

  key_lead : (i : ℕ) (k : Keyword) (z : List ℕ) → each_byte word_byte (written k) ≡ true → Lead (Some k) → Apart z → drop i text ≡ written k ++ z → Lead (key_at text i)
  key_lead i k z b l p e = rw (key_is i (written k) z (Some k) b p e (key-written k)) l

  body_lead : (b : Body) (i : ℕ) (t : List ℕ) → SpellsBody AnyName b t → drop i text ≡ t → Lead (key_at text i)
  unfolding SpellsBody each_byte
  body_lead end i t s e =
      let n : length text ≤ i = omega (arith, ap length (e ∙ s), length-drop i text) in
      rw (sym (key-past text i n)) (record { no_own = refl; no_cells = refl })
  body_lead (put k x b) i t (a, u, v, h, s, r, q) e = name_lead i a _ h refl (e ∙ q)
  body_lead (read_shared k x b) i t (a, u, v, h, s, r, q) e = name_lead i a _ h refl (e ∙ q)
  body_lead (read_all k x b) i t (a, u, v, h, s, r, q) e = name_lead i a _ h refl (e ∙ q)
  body_lead (write_shared x y b) i t (u, v, z, s, r, g, q) e = key_lead i kw.Cell _ refl (record { no_own = refl; no_cells = refl }) refl (e ∙ q)
  body_lead (write_all x y b) i t (u, v, z, s, r, g, q) e = key_lead i kw.Field _ refl (record { no_own = refl; no_cells = refl }) refl (e ∙ q)
  body_lead (barrier b) i t (z, r, q) e = key_lead i kw.Barrier _ refl (record { no_own = refl; no_cells = refl }) refl (e ∙ q)
  body_lead (when x c d b) i t (u, cx, y, z, s, cs, o, r, q) e = key_lead i kw.If _ refl (record { no_own = refl; no_cells = refl }) refl (e ∙ q)
  body_lead (while x c b) i t (u, cx, z, s, cs, ne, r, q) e = key_lead i kw.While _ refl (record { no_own = refl; no_cells = refl }) refl (e ∙ q)

  rest_lead : (s : ℕ) (c t : List ℕ) (b : Body) (i : ℕ) → CellsLine s c → SpellsBody AnyName b t → drop i text ≡ c ++ t → is_own_spec (key_at text i) ≡ false
  unfolding each_byte
  rest_lead s c t b i (inl p) h e = (body_lead b i t h (e ∙ ap (λ m. m ++ t) p.1)).no_own
  rest_lead s c t b i (inr (u, n, q)) h e = ap is_own_spec (key_is i (codes "cells") _ (Some kw.Cells) refl refl (e ∙ ap (λ m. m ++ t) q) (key-written kw.Cells))

  -- the names
  abbrev NamedTo : List (List ℕ) → ℕ → ℕ → Type 0
  NamedTo seen m e = (e ≡ m) × (length seen < 64)

  room-right : (seen : List (List ℕ)) (i m : ℕ) → Good (cond (leb 64 (length seen)) (Err (ManyNames i)) (Ok m)) (NamedTo seen m)
  room-right seen i m =
      elim (cases_Bool (leb 64 (length seen)))
      [ inl c ↦ rw c (good-other (ManyNames i) (NamedTo seen m) (no_names i)) | inr c ↦ rw c (good-ok m (NamedTo seen m) (refl, leb-false 64 (length seen) c)) ]

  name-right : (seen : List (List ℕ)) (i : ℕ) (u z : List ℕ) → IsName u → drop i text ≡ u ++ z → Apart z → Good (name_at seen text i) (NamedTo seen (i + length u))
  unfolding name_at
  name-right seen i u z h e a =
      let l : letter (get_or text i 0) ≡ true = ap letter (byte_of text i u z h.some e) ∙ h.begins in
      let r : run_of word_byte (drop i text) ≡ length u = run-here word_byte text i u z h.bytes a e in
      let k : key_at text i ≡ None = key_is i u z None h.bytes a e (key-free u h.free) in
      let P : ℕ → Type 0 = NamedTo seen (i + length u) in
      rw (l, k, r, lt-leb 9 (length u) (omega (arith, h.short)))
      (good-cond _ (Err (Twice i)) (cond (leb 64 (length seen)) (Err (ManyNames i)) (Ok (i + length u))) P (good-other (Twice i) P (no-twice i)) (room-right seen i (i + length u)))

  abbrev Then : List ℕ → Found → Type 0
  Then z f = drop f.next text ≡ z

  after-right : (ns : List (List ℕ)) (n : ℕ) (seen : List (List ℕ)) (e : ℕ) (z : List ℕ) → drop e text ≡ spaced ns ++ (10 ∷ z) → (ns ≢ [] → Good (names_at text n seen e) (Then z))
      → Good (cond (eqb (get_or text e 0) 10) (Ok (record { names = seen; next = e + 1 })) (names_at text n seen e)) (Then z)
  after-right [] n seen e z d r = rw (eq-eqb (get_or text e 0) 10 (first_byte text e 10 z d)) (good-ok _ (Then z) (past-byte text e 10 z d))
  after-right (u ∷ ns) n seen e z d r =
      let f : get_or text e 0 ≡ 32 = first_byte text e 32 _ d in
      rw (ne_eqb (get_or text e 0) 10 (λ q. omega (arith, q, f))) (r (λ q. let y : ◌≡◌ {A = ℕ} 0 1 = cc in omega arith))

  names-right : (ns : List (List ℕ)) (n : ℕ) (seen : List (List ℕ)) (i : ℕ) (z : List ℕ) → ns ≢ [] → ((k : ℕ) → k < length ns → IsName (get_or ns k [])) → length seen ≤ 64 → 65 ≤ length seen + n
      → drop i text ≡ spaced ns ++ (10 ∷ z) → Good (names_at text n seen i) (Then z)
  unfolding names_at each_byte
  names-right [] n seen i z ne h a b d = absurd (ne refl)
  names-right (u ∷ ns) zero seen i z ne h a b d = absurd (omega arith)
  names-right (u ∷ ns) (suc n) seen i z ne h a b d =
      let d0 : drop i text ≡ 32 ∷ (u ++ (spaced ns ++ (10 ∷ z))) = d ∙ spaced-more u ns (10 ∷ z) in
      let d1 : drop (i + 1) text ≡ u ++ (spaced ns ++ (10 ∷ z)) = past-byte text i 32 _ d0 in
      let d2 : drop ((i + 1) + length u) text ≡ spaced ns ++ (10 ∷ z) = past text (i + 1) u _ d1 in
      let more : List (List ℕ) = seen ++ (word_part text (i + 1) ∷ []) in
      rw (bytes-done text i (codes " ") _ refl d0)
      (good-then (name_at seen text (i + 1)) _ (NamedTo seen ((i + 1) + length u)) (Then z) (name-right seen (i + 1) u (spaced ns ++ (10 ∷ z)) (h 0 (omega arith)) d1 (apart-spaced ns z))
      (λ e p. rw p.0 (after-right ns n more ((i + 1) + length u) z d2
      (λ some. names-right ns n more ((i + 1) + length u) z some (λ k l. h (suc k) (omega arith)) (omega (arith, length_push seen (word_part text (i + 1)), p.1)) (omega (arith, length_push seen (word_part text (i + 1)))) d2))))

  own-right : (ns : List (List ℕ)) (own z : List ℕ) → OwnLine ns own → ((k : ℕ) → k < length ns → IsName (get_or ns k [])) → text ≡ own ++ z → (ns ≡ [] → is_own_spec (key_at text 0) ≡ false)
      → Good (own_at text) (Then z)
  unfolding own_at each_byte
  own-right ns own z (inl p) names e l = rw (l p.0) (good-ok _ (Then z) (e ∙ ap (λ m. m ++ z) p.1))
  own-right ns own z (inr p) names e l =
      let d0 : text ≡ codes "own" ++ (spaced ns ++ (10 ∷ z)) = e ∙ ap (λ m. m ++ z) p.1 ∙ ap (λ m. codes "own" ++ m) (append_assoc (spaced ns) (10 ∷ []) z) in
      rw (key_is 0 (codes "own") (spaced ns ++ (10 ∷ z)) (Some kw.Own) refl (apart-spaced ns z) d0 (key-written kw.Own))
      (names-right ns 66 [] 3 z p.0 names (omega arith) (omega arith) (ap (λ t. drop 3 t) d0))

  abbrev CelledTo : List ℕ → Head → Type 0
  CelledTo z h = drop h.next text ≡ z

  cells-end : (m j : ℕ) (t : List ℕ) → drop j text ≡ 10 ∷ t → Good (and_then {Y = Head} (bytes_at text (codes "\n") j) (λ n. Ok (record { many = m; next = n }))) (CelledTo t)
  unfolding each_byte
  cells-end m j t d = rw (bytes-done text j (codes "\n") t refl d) (good-ok _ (CelledTo t) (past-byte text j 10 t d))

  cells_rest : (i j m k : ℕ) (t : List ℕ) → drop k text ≡ 10 ∷ t
      → Good (cond (ltb 16384 m) (Err (ManyCells j)) (cond (ltb 1024 (k - i)) (Err (Long (i + 1024))) (and_then {Y = Head} (bytes_at text (codes "\n") k) (λ n. Ok (record { many = m; next = n }))))) (CelledTo t)
  cells_rest i j m k t d =
      good-cond (ltb 16384 m) (Err (ManyCells j)) (cond (ltb 1024 (k - i)) (Err (Long (i + 1024))) (and_then {Y = Head} (bytes_at text (codes "\n") k) (λ n. Ok (record { many = m; next = n })))) (CelledTo t)
      (good-other (ManyCells j) (CelledTo t) (no_cells j))
      (good-cond (ltb 1024 (k - i)) (Err (Long (i + 1024))) (and_then {Y = Head} (bytes_at text (codes "\n") k) (λ n. Ok (record { many = m; next = n }))) (CelledTo t)
      (good-other (Long (i + 1024)) (CelledTo t) (no-long (i + 1024))) (cells-end m k t d))

  cells_right : (s : ℕ) (c t : List ℕ) (b : Body) (i : ℕ) → CellsLine s c → SpellsBody AnyName b t → drop i text ≡ c ++ t → Good (cells_at text i) (CelledTo t)
  unfolding cells_at each_byte
  cells_right s c t b i (inl p) h e =
      let d : drop i text ≡ t = e ∙ ap (λ m. m ++ t) p.1 in
      rw (body_lead b i t h d).no_cells (good-ok _ (CelledTo t) d)
  cells_right s c t b i (inr (u, n, q)) h e =
      let d0 : drop i text ≡ codes "cells " ++ (u ++ (10 ∷ t)) = e ∙ ap (λ m. m ++ t) q ∙ ap (λ m. codes "cells " ++ m) (append_assoc u (10 ∷ []) t) in
      let d1 : drop (i + 6) text ≡ u ++ (10 ∷ t) = past text i (codes "cells ") _ d0 in
      let d2 : drop ((i + 6) + length u) text ≡ 10 ∷ t = past text (i + 6) u _ d1 in
      let g : digit (get_or text (i + 6) 0) ≡ true = ap digit (byte_of text (i + 6) u (10 ∷ t) n.some d1) ∙ byte_at digit u 0 n.bytes n.some in
      rw (key_is i (codes "cells") _ (Some kw.Cells) refl refl d0 (key-written kw.Cells), bytes-done text i (codes "cells ") _ refl d0, g, run-here digit text (i + 6) u (10 ∷ t) n.bytes refl d1)
      (cells_rest i (i + 6) (decimal 0 (take (length u) (drop (i + 6) text))) ((i + 6) + length u) t d2)

  abbrev Any : Shape → Type 0
  Any s = Unit {0}

  no_own : (ns : List (List ℕ)) (own z : List ℕ) → ns ≡ [] → OwnLine ns own → text ≡ own ++ z → text ≡ z
  no_own ns own z n (inl p) e = e ∙ ap (λ m. m ++ z) p.1
  no_own ns own z n (inr p) e = absurd (p.0 n)

  -- a whole text
  pub read_right : (ns : List (List ℕ)) (p : Program) → Spelled AnyName ns p text → Good (read_at text) Any
  unfolding read_at
  read_right ns p s =
      let z : List ℕ = s.cells_part ++ s.body_part in
      good-then (own_at text) _ (Then z) Any
      (own-right ns s.own_part z s.own_line s.names s.whole (λ e. rest_lead p.shared s.cells_part s.body_part p.body 0 s.cells_line s.body (no_own ns s.own_part z e s.own_line s.whole)))
      (λ f ef. good-then (cells_at text f.next) _ (CelledTo s.body_part) Any (cells_right p.shared s.cells_part s.body_part p.body f.next s.cells_line s.body ef)
      (λ h eh. good-then (block_at (place_in f.names) text 1025 16 (1024 - head_lines_spec f.next h.next) h.next false) _ (Stopped (place_in f.names) text Text [] (1024 - head_lines_spec f.next h.next) p.body false) Any
      (body_reads (place_in f.names) text p.body s.body_part s.body Text [] [] 1025 16 (1024 - head_lines_spec f.next h.next) h.next false (refl, refl) (eh ∙ sym (append-nil s.body_part)) (omega arith))
      (λ x k. rw k.ending_is (good-ok _ Any tt))))
