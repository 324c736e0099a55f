-- A text that spells a program within the limits is read.
use Rattle.std.proofs.Common.{◌≡◌, ℕ, zero, suc, ◌+◌, ◌-◌, ◌<◌, ◌≤◌, true, false, cond, eqb, ◌≢◌, List, [], ◌∷◌, ◌++◌, length, get_or, drop, Some, None, Ok, codes, Option, Result, sym, refl, ap, ◌∙◌, inl, inr, arith}
use Rattle.std.proofs.lemmas.List.{append_assoc, append-nil, length-append, length-drop, get_or_append_left}
use Rattle.std.proofs.lemmas.Bool.{cases_Bool, lt-leb, le-ltb, eq-eqb, ne_eqb}
use Rattle.lanes.specs.Syntax.{Program, Body, end, put, read_shared, write_shared, read_all, write_all, barrier, when, while}
use Rattle.grammar.specs.Spelling.{letter, digit, word_byte, each_byte, same_bytes, one_of, decimal, IsName, SpellsBody, OwnLine, CellsLine, Named}
use Rattle.grammar.specs.Stands.{Apart}
use Rattle.grammar.specs.Taken.{Taken, Distinct, lines_in, lines_within}
use Rattle.grammar.specs.Runs.{run_of, written}
use Rattle.grammar.specs.Walk.{word_part, key_at, key_of, number_part, place_in}
use Rattle.grammar.specs.declared.refusals.Refusal.{Refusal}
use Rattle.grammar.specs.declared.keywords.Keyword.{Keyword}
use Rattle.grammar.specs.declared.keywords.Keyword.TheVariants as kw
use Rattle.grammar.proofs.Walks.{key-written, key-past, same-decides}
use Rattle.grammar.proofs.Scanned.{byte_at}
use Rattle.grammar.proofs.Nameds.{named-place}
use Rattle.grammar.proofs.Complete.{first_byte, past, past-byte, bytes-done, run-here, part-here, key-free, byte_of}
use Rattle.reader.specs.Heads.{spaced, is_own_spec, is_cells_spec, name_at, names_at, own_at, Found, cells_at}
use Rattle.reader.specs.Blocks.{block_at}
use Rattle.reader.specs.Texts.{read_at, head_lines_spec, shape_of, EveryRead}
use Rattle.reader.specs.declared.heads.Head.{Head}
use Rattle.reader.specs.declared.blocks.Ending.TheVariants.{Text}
use Rattle.reader.specs.declared.texts.Shape.{Shape}
use Rattle.reader.proofs.Counts.{lines-append, digit-lines}
use Rattle.reader.proofs.Whole.{own-sound, cells-sound, Owned, Celled}
use Rattle.reader.proofs.Wholelines.{Room, Ended, short_back, body_reads}

-- a name among those seen has a place there
seen_at : (ns : List (List ℕ)) (u : List ℕ) → one_of ns u ≡ true → (k : ℕ) × (k < length ns) × (get_or ns k [] ≡ u)
unfolding one_of
seen_at [] u h = let z : ◌≡◌ {A = ℕ} 0 1 = cc in absurd (omega arith)
seen_at (n ∷ ns) u h =
    elim (cases_Bool (same_bytes n u)) [
      | inl p ↦ (0, omega arith, (same-decides n u).0 p)
      | inr p ↦ let x : one_of ns u ≡ true = rw p at h in let r = seen_at ns u x in (suc r.0, omega (arith, r.1), r.2)
    ]

getD-mid : (xs : List (List ℕ)) (u : List ℕ) (ys : List (List ℕ)) → get_or (xs ++ (u ∷ ys)) (length xs) [] ≡ u
getD-mid [] u ys = refl
getD-mid (x ∷ xs) u ys = getD-mid xs u ys

fresh : (seen : List (List ℕ)) (u : List ℕ) (ns : List (List ℕ)) → Distinct (seen ++ (u ∷ ns)) → one_of seen u ≡ false
fresh seen u ns d =
    elim (cases_Bool (one_of seen u)) [
      | inr p ↦ p
      | inl p ↦
          let r = seen_at seen u p in
          let len = length-append seen (u ∷ ns) in
          let q : r.0 ≡ length seen = d r.0 (length seen) (omega (arith, len, r.1)) (omega (arith, len)) (get_or_append_left seen (u ∷ ns) [] r.0 r.1 ∙ r.2 ∙ sym (getD-mid seen u ns)) in
          absurd (omega (arith, q, r.1))
    ]

apart-spaced : (ns : List (List ℕ)) (z : List ℕ) → Apart (spaced ns ++ (10 ∷ z))
apart-spaced [] z = refl
apart-spaced (n ∷ ns) z = refl

-- neither of the words that begin the first two lines
record Lead (k : Option Keyword) : Type 0 where
  no_own : is_own_spec k ≡ false
  no_cells : is_cells_spec k ≡ false

cells_free : lines_in (codes "cells ") ≡ 0
unfolding lines_in
cells_free = refl

module _ (text : List ℕ) where
  key_is : (i : ℕ) (w z : List ℕ) (k : Option Keyword) → each_byte word_byte w ≡ true → Apart z → drop i text ≡ w ++ z → key_of w ≡ k → key_at text i ≡ k
  key_is i w z k b a e q = ap key_of (part-here word_byte text i w z b a e) ∙ q

  -- the names
  name_done : (seen : List (List ℕ)) (i : ℕ) (u z : List ℕ) → IsName u → one_of seen u ≡ false → length seen < 64 → drop i text ≡ u ++ z → Apart z → name_at seen text i ≡ Ok (i + length u)
  unfolding name_at
  name_done seen i u z h f m e a =
      let l : letter (get_or text i 0) ≡ true = ap letter (byte_of text i u z h.some e) ∙ h.begins in
      let r : run_of word_byte (drop i text) ≡ length u = run-here word_byte text i u z h.bytes a e in
      let w : word_part text i ≡ u = part-here word_byte text i u z h.bytes a e in
      rw (l, w, r, lt-leb 9 (length u) (omega (arith, h.short)), key-free u h.free, f, lt-leb 64 (length seen) m) refl

  record Owns (r : Result Found Refusal) (ns : List (List ℕ)) (z : List ℕ) : Type 0 where
    next : ℕ
    is : r ≡ Ok (record { names = ns; next = next })
    rest : drop next text ≡ z

  after_done : (ns : List (List ℕ)) (n : ℕ) (seen : List (List ℕ)) (e : ℕ) (z : List ℕ) → drop e text ≡ spaced ns ++ (10 ∷ z) → (ns ≢ [] → Owns (names_at text n seen e) (seen ++ ns) z)
      → Owns (cond (eqb (get_or text e 0) 10) (Ok (record { names = seen; next = e + 1 })) (names_at text n seen e)) (seen ++ ns) z
  after_done [] n seen e z d r =
      rw (eq-eqb (get_or text e 0) 10 (first_byte text e 10 z d)) (record { next = e + 1; is = ap (λ m. Ok (record { names = m; next = e + 1 })) (sym (append-nil seen)); rest = past-byte text e 10 z d })
  after_done (u ∷ ns) n seen e z d r =
      let f : get_or text e 0 ≡ 32 = first_byte text e 32 _ d in
      rw (ne_eqb (get_or text e 0) 10 (λ q. omega (arith, q, f))) (r (λ q. let y : ◌≡◌ {A = ℕ} 0 1 = cc in omega arith))

  names_done : (ns : List (List ℕ)) (n : ℕ) (seen : List (List ℕ)) (i : ℕ) (z : List ℕ) → ns ≢ [] → ((k : ℕ) → k < length ns → IsName (get_or ns k [])) → Distinct (seen ++ ns) → length seen + length ns ≤ 64 → length ns < n
      → drop i text ≡ spaced ns ++ (10 ∷ z) → Owns (names_at text n seen i) (seen ++ ns) z
  unfolding names_at each_byte
  names_done [] n seen i z ne h di a b d = absurd (ne refl)
  names_done (u ∷ ns) zero seen i z ne h di a b d = absurd (omega arith)
  names_done (u ∷ ns) (suc n) seen i z ne h di a b d =
      let d0 : drop i text ≡ 32 ∷ (u ++ (spaced ns ++ (10 ∷ z))) = d ∙ ap (λ t. 32 ∷ t) (append_assoc u (spaced ns) (10 ∷ z)) in
      let d1 : drop (i + 1) text ≡ u ++ (spaced ns ++ (10 ∷ z)) = past-byte text i 32 _ d0 in
      let d2 : drop ((i + 1) + length u) text ≡ spaced ns ++ (10 ∷ z) = past text (i + 1) u _ d1 in
      let nu : IsName u = h 0 (omega arith) in
      let same : (seen ++ (u ∷ [])) ++ ns ≡ seen ++ (u ∷ ns) = append_assoc seen (u ∷ []) ns in
      let len = length-append seen (u ∷ []) in
      rw (bytes-done text i (codes " ") _ refl d0, name_done seen (i + 1) u (spaced ns ++ (10 ∷ z)) nu (fresh seen u ns di) (omega arith) d1 (apart-spaced ns z), part-here word_byte text (i + 1) u (spaced ns ++ (10 ∷ z)) nu.bytes (apart-spaced ns z) d1, sym same)
      (after_done ns n (seen ++ (u ∷ [])) ((i + 1) + length u) z d2
      (λ some. names_done ns n (seen ++ (u ∷ [])) ((i + 1) + length u) z some (λ k l. h (suc k) (omega arith)) (rw same di) (omega (arith, len)) (omega arith) d2))

  own_done : (ns : List (List ℕ)) (own z : List ℕ) → OwnLine ns own → ((k : ℕ) → k < length ns → IsName (get_or ns k [])) → Distinct ns → length ns ≤ 64 → text ≡ own ++ z → (ns ≡ [] → is_own_spec (key_at text 0) ≡ false)
      → Owns (own_at text) ns z
  unfolding own_at each_byte
  own_done ns own z (inl p) names di m e l = rw (l p.0) (record { next = 0; is = ap (λ m. Ok (record { names = m; next = 0 })) (sym p.0); rest = e ∙ ap (λ m. m ++ z) p.1 })
  own_done ns own z (inr p) names di m e l =
      let d0 : text ≡ codes "own" ++ (spaced ns ++ (10 ∷ z)) = e ∙ ap (λ m. m ++ z) p.1 ∙ ap (λ m. codes "own" ++ m) (append_assoc (spaced ns) (10 ∷ []) z) in
      rw (key_is 0 (codes "own") (spaced ns ++ (10 ∷ z)) (Some kw.Own) refl (apart-spaced ns z) d0 (key-written kw.Own))
      (names_done ns 66 [] 3 z p.0 names di (omega arith) (omega arith) (ap (λ t. drop 3 t) d0))

  -- the cells
  record CellsRead (r : Result Head Refusal) (s : ℕ) (t : List ℕ) : Type 0 where
    next : ℕ
    is : r ≡ Ok (record { many = s; next = next })
    rest : drop next text ≡ t

  cells_done : (s : ℕ) (c t : List ℕ) (i : ℕ) → CellsLine s c → s ≤ 16384 → (c ≡ [] → is_cells_spec (key_at text i) ≡ false) → drop i text ≡ c ++ t → lines_within 1024 0 (drop i text) ≡ true → CellsRead (cells_at text i) s t
  unfolding cells_at each_byte
  cells_done s c t i (inl p) m l e w =
      rw (l p.1) (record { next = i; is = ap (λ k. Ok (record { many = k; next = i })) (sym p.0); rest = e ∙ ap (λ k. k ++ t) p.1 })
  cells_done s c t i (inr (u, n, q)) m l e w =
      let d0 : drop i text ≡ codes "cells " ++ (u ++ (10 ∷ t)) = e ∙ ap (λ k. k ++ t) q ∙ ap (λ k. codes "cells " ++ k) (append_assoc u (10 ∷ []) t) in
      let d1 : drop (i + 6) text ≡ u ++ (10 ∷ t) = past text i (codes "cells ") _ d0 in
      let d2 : drop ((i + 6) + length u) text ≡ 10 ∷ t = past text (i + 6) u _ d1 in
      let g : digit (get_or text (i + 6) 0) ≡ true = ap digit (byte_of text (i + 6) u (10 ∷ t) n.some d1) ∙ byte_at digit u 0 n.bytes n.some in
      let v : number_part text (i + 6) ≡ s = ap (λ k. decimal 0 k) (part-here digit text (i + 6) u (10 ∷ t) n.bytes refl d1) ∙ n.value in
      let x = short_back (codes "cells " ++ u) t 0 (omega (arith, lines-append (codes "cells ") u, cells_free, digit-lines u n.bytes)) (omega arith) (ap (λ k. lines_within 1024 0 k) (append_assoc (codes "cells ") u (10 ∷ t) ∙ sym d0) ∙ w) in
      let y : ((i + 6) + length u) - i ≤ 1024 = omega (arith, x.0, length-append (codes "cells ") u) in
      rw (
        key_is i (codes "cells") _ (Some kw.Cells) refl refl d0 (key-written kw.Cells),
        bytes-done text i (codes "cells ") _ refl d0,
        g,
        v,
        run-here digit text (i + 6) u (10 ∷ t) n.bytes refl d1,
        le-ltb 16384 s m,
        le-ltb 1024 (((i + 6) + length u) - i) y,
        bytes-done text ((i + 6) + length u) (codes "\n") t refl d2,
      )
      (record { next = ((i + 6) + length u) + 1; is = refl; rest = past-byte text ((i + 6) + length u) 10 t d2 })

  -- how a body begins
  module _ (N : ℕ → List ℕ → Type 0) (named : (k : ℕ) (u : List ℕ) → N k u → IsName u) where
    name_lead : (i : ℕ) (a z : List ℕ) → IsName a → Apart z → drop i text ≡ a ++ z → Lead (key_at text i)
    name_lead i a z h p e = rw (key_is i a z None h.bytes p e (key-free a h.free)) (record { no_own = refl; no_cells = refl })

    key_lead : (i : ℕ) (k : Keyword) (z : List ℕ) → each_byte word_byte (written k) ≡ true → Lead (Some k) → Apart z → drop i text ≡ written k ++ z → Lead (key_at text i)
    key_lead i k z b l p e = rw (key_is i (written k) z (Some k) b p e (key-written k)) l

    body_lead : (b : Body) (i : ℕ) (t : List ℕ) → SpellsBody N b t → drop i text ≡ t → Lead (key_at text i)
    unfolding SpellsBody each_byte
    body_lead end i t s e =
        let n : length text ≤ i = omega (arith, ap length (e ∙ s), length-drop i text) in
        rw (sym (key-past text i n)) (record { no_own = refl; no_cells = refl })
    body_lead (put k x b) i t (a, u, v, h, s, r, q) e = name_lead i a _ (named k a h) refl (e ∙ q)
    body_lead (read_shared k x b) i t (a, u, v, h, s, r, q) e = name_lead i a _ (named k a h) refl (e ∙ q)
    body_lead (read_all k x b) i t (a, u, v, h, s, r, q) e = name_lead i a _ (named k a h) refl (e ∙ q)
    body_lead (write_shared x y b) i t (u, v, z, s, r, g, q) e = key_lead i kw.Cell _ refl (record { no_own = refl; no_cells = refl }) refl (e ∙ q)
    body_lead (write_all x y b) i t (u, v, z, s, r, g, q) e = key_lead i kw.Field _ refl (record { no_own = refl; no_cells = refl }) refl (e ∙ q)
    body_lead (barrier b) i t (z, r, q) e = key_lead i kw.Barrier _ refl (record { no_own = refl; no_cells = refl }) refl (e ∙ q)
    body_lead (when x c d b) i t (u, cx, y, z, s, cs, o, r, q) e = key_lead i kw.If _ refl (record { no_own = refl; no_cells = refl }) refl (e ∙ q)
    body_lead (while x c b) i t (u, cx, z, s, cs, ne, r, q) e = key_lead i kw.While _ refl (record { no_own = refl; no_cells = refl }) refl (e ∙ q)

    rest_lead : (s : ℕ) (c t : List ℕ) (b : Body) (i : ℕ) → CellsLine s c → SpellsBody N b t → drop i text ≡ c ++ t → is_own_spec (key_at text i) ≡ false
    unfolding each_byte
    rest_lead s c t b i (inl p) h e = (body_lead b i t h (e ∙ ap (λ m. m ++ t) p.1)).no_own
    rest_lead s c t b i (inr (u, n, q)) h e = ap is_own_spec (key_is i (codes "cells") _ (Some kw.Cells) refl refl (e ∙ ap (λ m. m ++ t) q) (key-written kw.Cells))

  no_own_line : (ns : List (List ℕ)) (own z : List ℕ) → ns ≡ [] → OwnLine ns own → text ≡ own ++ z → text ≡ z
  no_own_line ns own z n (inl p) e = e ∙ ap (λ m. m ++ z) p.1
  no_own_line ns own z n (inr p) e = absurd (p.0 n)

  -- a whole text
  module _ (ns : List (List ℕ)) (p : Program) (t : Taken ns p text) where
    is_named : (k : ℕ) (u : List ℕ) → Named ns k u → IsName u
    is_named k u h = rw h.1 (t.spelled.names k h.0)

    owns : Owns (own_at text) ns (t.spelled.cells_part ++ t.spelled.body_part)
    owns =
        let s = t.spelled in
        own_done ns s.own_part (s.cells_part ++ s.body_part) s.own_line s.names t.distinct t.few_names s.whole
        (λ e. rest_lead (Named ns) is_named p.shared s.cells_part s.body_part p.body 0 s.cells_line s.body (no_own_line ns s.own_part (s.cells_part ++ s.body_part) e s.own_line s.whole))

    owned : Owned text (record { names = ns; next = owns.next })
    owned = own-sound text (record { names = ns; next = owns.next }) owns.is

    cells : CellsRead (cells_at text owns.next) p.shared t.spelled.body_part
    cells =
        let s = t.spelled in
        cells_done p.shared s.cells_part s.body_part owns.next s.cells_line t.few_cells
        (λ e. (body_lead (Named ns) is_named p.body owns.next s.body_part s.body (owns.rest ∙ ap (λ m. m ++ s.body_part) e)).no_cells) owns.rest (sym owned.short ∙ t.short)

    celled : Celled text owns.next (record { many = p.shared; next = cells.next })
    celled = cells-sound text owns.next (record { many = p.shared; next = cells.next }) cells.is

    first : ℕ
    first = head_lines_spec owns.next cells.next

    room : Room text cells.next (1024 - first)
    unfolding first
    room = record { few = omega (arith, owned.count, celled.count, t.few_lines); short = sym celled.short ∙ sym owned.short ∙ t.short }

    body : Ended text Text [] (1024 - first) p.body false (block_at (place_in ns) text 1025 16 (1024 - first) cells.next false)
    body =
        body_reads (place_in ns) text (Named ns) p.owns is_named (named-place ns t.distinct) p.body t.spelled.body_part t.spelled.body t.fits Text [] [] 1025 16 (1024 - first) cells.next false
        (refl, refl) (cells.rest ∙ sym (append-nil t.spelled.body_part)) (omega arith) t.shallow room

    pub read_done : (s : Shape) × (read_at text ≡ Ok s)
    unfolding read_at first
    read_done = (shape_of (record { names = ns; next = owns.next }) (record { many = p.shared; next = cells.next }) body.stop, rw (owns.is, cells.is, body.is, body.stopped.ending_is) refl)

pub every-read : (text : List ℕ) (r : Result Shape Refusal) → r ≡ read_at text → EveryRead text r
every-read text r w ns p t = let d = read_done text ns p t in (d.0, w ∙ d.1)
