-- A text that is read is a program within the limits.
use Rattle.std.proofs.Common.{◌≡◌, ℕ, suc, ◌+◌, ◌-◌, ◌*◌, ◌<◌, ◌≤◌, Bool, true, false, cond, ltb, ◌≢◌, List, [], ◌∷◌, ◌++◌, length, get_or, take, drop, Some, Ok, Err, codes, Result, sym, refl, ap, ◌∙◌, subst, inl, inr, arith}
use Rattle.std.proofs.lemmas.List.{append_assoc, append-nil, length-append, take-append-drop, drop_all}
use Rattle.std.proofs.lemmas.Bool.{lt-ltb, le-ltb, ltb-false, cases_lt}
use Rattle.lanes.specs.Syntax.{Program}
use Rattle.grammar.specs.Spelling.{digit, word_byte, each_byte, IsName, OwnLine, CellsLine, Named, Spelled, SpellsBody}
use Rattle.grammar.specs.Taken.{Distinct, lines_in, lines_within}
use Rattle.grammar.specs.Names.{NamesIn}
use Rattle.grammar.specs.Runs.{run_of}
use Rattle.grammar.specs.Walk.{key_at, key_of, bytes_at, number_part, place_in}
use Rattle.grammar.specs.declared.refusals.Refusal.{Refusal}
use Rattle.grammar.specs.declared.keywords.Keyword.TheVariants as kw
use Rattle.grammar.proofs.Walks.{key-written, run-each}
use Rattle.grammar.proofs.Nameds.{place-named, named-name}
use Rattle.grammar.proofs.Complete.{part-here}
use Rattle.grammar.proofs.Sound.{cond_cases, then-parts, not_err, same_ok, bytes-sound, run-splits, run_length, run-some}
use Rattle.reader.specs.Heads.{spaced, Found, counted, is_own_spec, is_cells_spec, own_at, cells_at}
use Rattle.reader.specs.Blocks.{block_at, must_as}
use Rattle.reader.specs.Texts.{head_lines_spec, whole, shape_of, read_at, ReadAs}
use Rattle.reader.specs.declared.heads.Head.{Head}
use Rattle.reader.specs.declared.blocks.Ending.{Ending}
use Rattle.reader.specs.declared.blocks.Ending.TheVariants.{Text, Else, End}
use Rattle.reader.specs.declared.blocks.Stop.{Stop}
use Rattle.reader.specs.declared.texts.Shape.{Shape}
use Rattle.reader.proofs.Owns.{own-begins, walk_start, names-sound, LineOf}
use Rattle.reader.proofs.Counts.{lines-append, lines_cons, lines-nil, word-lines, digit-lines, one_line}
use Rattle.reader.proofs.Deeps.{block-sound, EndsAs}

-- names behind spaces: few bytes, no byte 10
spaced-free : (ns : List (List ℕ)) → ((k : ℕ) → k < length ns → IsName (get_or ns k [])) → lines_in (spaced ns) ≡ 0
spaced-free [] h = lines-nil
spaced-free (n ∷ ns) h =
    let p : IsName n = h 0 (omega arith) in
    omega (arith, lines_cons 32 (n ++ spaced ns) refl, lines-append n (spaced ns), word-lines n p.bytes, spaced-free ns (λ k l. h (suc k) (omega arith)))

spaced-few : (ns : List (List ℕ)) → ((k : ℕ) → k < length ns → IsName (get_or ns k [])) → length (spaced ns) ≤ 9 * length ns
spaced-few [] h = omega arith
spaced-few (n ∷ ns) h =
    let p : IsName n = h 0 (omega arith) in
    omega (arith, length-append n (spaced ns), p.short, spaced-few ns (λ k l. h (suc k) (omega arith)))

pub record Owned (text : List ℕ) (f : Found) : Type 0 where
  pub names_in : NamesIn f.names text
  pub distinct : Distinct f.names
  pub part : List ℕ
  pub line : OwnLine f.names part
  pub here : text ≡ part ++ drop f.next text
  pub count : lines_in text ≡ cond (ltb 0 f.next) 1 0 + lines_in (drop f.next text)
  pub short : lines_within 1024 0 text ≡ lines_within 1024 0 (drop f.next text)

own-free : lines_in (codes "own") ≡ 0
unfolding lines_in
own-free = refl

owned-some : (text : List ℕ) (f : Found) → text ≡ codes "own" ++ drop 3 text → LineOf text f → Owned text f
owned-some text f b l =
    let ns : List (List ℕ) = f.names in
    let part : List ℕ = codes "own" ++ (spaced ns ++ (10 ∷ [])) in
    let ne : ns ≢ [] = λ q. omega (arith, l.some, ap length q) in
    let e : text ≡ part ++ drop f.next text = b ∙ ap (λ t. codes "own" ++ t) (l.here ∙ sym (append_assoc (spaced ns) (10 ∷ []) (drop f.next text))) in
    let e2 : text ≡ (codes "own" ++ spaced ns) ++ (10 ∷ drop f.next text) = b ∙ ap (λ t. codes "own" ++ t) l.here in
    let o = one_line text 0 f.next (codes "own" ++ spaced ns) (omega (arith, lines-append (codes "own") (spaced ns), own-free, spaced-free ns l.names)) (omega (arith, length-append (codes "own") (spaced ns), spaced-few ns l.names, l.few)) e2 in
    let pos : 0 < f.next = elim (cases_lt 0 f.next) [ inl q ↦ q | inr q ↦ absurd (let z : f.next ≡ 0 = omega arith in omega (arith, ap length e2, length-append (codes "own" ++ spaced ns) (10 ∷ drop f.next text), ap (λ m. length (drop m text)) z)) ] in
    record {
      names_in = record { line = part; rest = drop f.next text; whole = e; own_line = inr (ne, refl); names = l.names; few = l.few; missing = λ q _. ne q };
      distinct = l.distinct;
      part = part;
      line = inr (ne, refl);
      here = e;
      count = rw (lt-ltb 0 f.next pos) (omega (arith, o.count));
      short = o.short;
    }

no_own : (text : List ℕ) → is_own_spec (key_at text 0) ≡ false → take 4 text ≡ codes "own " → ⊥
unfolding each_byte
no_own text h t =
    let e : text ≡ codes "own" ++ (32 ∷ drop 4 text) = sym (take-append-drop 4 text) ∙ ap (λ m. m ++ drop 4 text) t in
    let k : key_at text 0 ≡ Some kw.Own = ap key_of (part-here word_byte text 0 (codes "own") (32 ∷ drop 4 text) refl refl e) ∙ key-written kw.Own in
    let q : ◌≡◌ {A = Bool} true false = sym (ap is_own_spec k) ∙ h in
    let z : ◌≡◌ {A = ℕ} 0 1 = cc in omega arith

owned-none : (text : List ℕ) → is_own_spec (key_at text 0) ≡ false → Owned text (record { names = []; next = 0 })
owned-none text h =
    record {
      names_in = record { line = []; rest = text; whole = refl; own_line = inl (refl, refl); names = λ k l. absurd (omega arith); few = omega arith; missing = λ _ t. no_own text h t };
      distinct = λ j k lj lk e. absurd (omega arith);
      part = [];
      line = inl (refl, refl);
      here = refl;
      count = omega arith;
      short = refl;
    }

pub own-sound : (text : List ℕ) (f : Found) → own_at text ≡ Ok f → Owned text f
unfolding own_at
own-sound text f e =
    elim (cond_cases (is_own_spec (key_at text 0)) _ _ (Ok f) e) [
      | inl p ↦ owned-some text f (own-begins text p.0).0 (names-sound text 66 [] 3 f (walk_start text p.0) p.1)
      | inr p ↦ subst (Owned text) (same_ok _ f p.1) (owned-none text p.0)
    ]

-- the line with the number of cells
pub record Celled (text : List ℕ) (i : ℕ) (h : Head) : Type 0 where
  pub part : List ℕ
  pub line : CellsLine h.many part
  pub few : h.many ≤ 16384
  pub here : drop i text ≡ part ++ drop h.next text
  pub count : lines_in (drop i text) ≡ cond (ltb i h.next) 1 0 + lines_in (drop h.next text)
  pub short : lines_within 1024 0 (drop i text) ≡ lines_within 1024 0 (drop h.next text)

cells_free : lines_in (codes "cells ") ≡ 0
unfolding lines_in
cells_free = refl

celled : (text : List ℕ) (i j n : ℕ) → bytes_at text (codes "cells ") i ≡ Ok j → digit (get_or text j 0) ≡ true → number_part text j ≤ 16384 → (j + run_of digit (drop j text)) - i ≤ 1024
    → bytes_at text (codes "\n") (j + run_of digit (drop j text)) ≡ Ok n → Celled text i (record { many = number_part text j; next = n })
celled text i j n b d m s x =
    let p = bytes-sound text (codes "cells ") i j b in
    let q = bytes-sound text (codes "\n") (j + run_of digit (drop j text)) n x in
    let u : List ℕ = take (run_of digit (drop j text)) (drop j text) in
    let len : length u ≡ run_of digit (drop j text) = run_length digit text j in
    let r : 1 ≤ run_of digit (drop j text) = run-some digit text j refl d in
    let e : drop i text ≡ codes "cells " ++ (u ++ (10 ∷ drop n text)) = p.0 ∙ ap (λ t. codes "cells " ++ t) (run-splits digit text j ∙ ap (λ t. u ++ t) q.0) in
    let o = one_line text i n (codes "cells " ++ u) (omega (arith, lines-append (codes "cells ") u, cells_free, digit-lines u (run-each digit (drop j text)))) (omega (arith, length-append (codes "cells ") u, p.1))
    (e ∙ sym (append_assoc (codes "cells ") u (10 ∷ drop n text))) in
    record {
      part = codes "cells " ++ (u ++ (10 ∷ []));
      line = inr (u, record { some = omega arith; bytes = run-each digit (drop j text); value = refl }, refl);
      few = m;
      here = e ∙ ap (λ t. codes "cells " ++ t) (sym (append_assoc u (10 ∷ []) (drop n text)));
      count = rw (lt-ltb i n (omega (arith, p.1, q.1))) (omega (arith, o.count));
      short = o.short;
    }

pub cells-sound : (text : List ℕ) (i : ℕ) (h : Head) → cells_at text i ≡ Ok h → Celled text i h
unfolding cells_at
cells-sound text i h e =
    elim (cond_cases (is_cells_spec (key_at text i)) _ _ (Ok h) e) [
      | inr p ↦ subst (Celled text i) (same_ok _ h p.1) (record { part = []; line = inl (refl, refl); few = omega arith; here = refl; count = rw (le-ltb i i (omega arith)) (omega arith); short = refl })
      | inl p ↦
          let a = then-parts (bytes_at text (codes "cells ") i) _ h p.1 in
          elim (cond_cases (digit (get_or text a.0 0)) _ _ (Ok h) a.2) [
            | inr d ↦ absurd (not_err _ h d.1)
            | inl d ↦
                elim (cond_cases (ltb 16384 (number_part text a.0)) _ _ (Ok h) d.1) [
                  | inl m ↦ absurd (not_err _ h m.1)
                  | inr m ↦
                      elim (cond_cases (ltb 1024 ((a.0 + run_of digit (drop a.0 text)) - i)) _ _ (Ok h) m.1) [
                        | inl s ↦ absurd (not_err _ h s.1)
                        | inr s ↦
                            let b = then-parts (bytes_at text (codes "\n") (a.0 + run_of digit (drop a.0 text))) _ h s.1 in
                            subst (Celled text i) (same_ok _ h b.2) (celled text i a.0 b.0 a.1 d.0 (ltb-false 16384 _ m.0) (ltb-false 1024 _ s.0) b.1)
                      ]
                ]
          ]
    ]

-- the whole text
whole_is : (g : Ending) (s e : Stop) → must_as Text g s ≡ Ok e → (e ≡ s) × (g ≡ Text)
whole_is Text s e h = (sym (same_ok s e h), refl)
whole_is Else s e h = absurd (not_err _ e h)
whole_is End s e h = absurd (not_err _ e h)

two : (x y : Bool) → ◌≤◌ (cond x 1 0 + cond y 1 0) 2
two true true = omega arith
two true false = omega arith
two false true = omega arith
two false false = omega arith

few-heads : (a b : ℕ) → head_lines_spec a b ≤ 2
few-heads a b = two (ltb 0 a) (ltb a b)

read_made : (text : List ℕ) (f : Found) (h : Head) (s : Stop) → Owned text f → Celled text f.next h → s.ending ≡ Text
    → block_at (place_in f.names) text 1025 16 (1024 - head_lines_spec f.next h.next) h.next false ≡ Ok s → ReadAs text (shape_of f h s)
unfolding lines_within
read_made text f h s w c g b =
    let ns : List (List ℕ) = f.names in
    let x = block-sound (place_in ns) text (Named ns) (length ns) (λ k u e. let p = place-named ns u k e in (p, p.0)) (named-name ns text w.names_in) (λ k u n. n.0) 1025 16 (1024 - head_lines_spec f.next h.next) h.next false s b in
    let en : EndsAs (place_in ns) text (Named ns) (length ns) (λ k u e. let p = place-named ns u k e in (p, p.0)) (named-name ns text w.names_in) (λ k u n. n.0) Text s = subst (λ m. EndsAs (place_in ns) text (Named ns) (length ns) (λ k u e. let p = place-named ns u k e in (p, p.0)) (named-name ns text w.names_in) (λ k u n. n.0) m s) g x.ends in
    let z : drop s.pos text ≡ [] = drop_all s.pos text en.0 in
    let z2 : drop s.next text ≡ [] = ap (λ m. drop m text) en.1 ∙ z in
    let body : drop h.next text ≡ x.bytes = x.here ∙ ap (λ t. x.bytes ++ t) z ∙ append-nil x.bytes in
    let k2 : head_lines_spec f.next h.next ≤ 2 = few-heads f.next h.next in
    let n0 : lines_in (drop s.next text) ≡ 0 = ap lines_in z2 ∙ lines-nil in
    let total : lines_in text ≡ head_lines_spec f.next h.next + lines_in (drop h.next text) = omega (arith, w.count, c.count) in
    let all : lines_in text + s.left ≡ 1024 = omega (arith, total, x.count, n0, k2) in
    let p : Program = record { body = x.body; owns = length ns; shared = h.many } in
    let sp : Spelled (Named ns) ns p text = record {
      own_part = w.part;
      cells_part = c.part;
      body_part = drop h.next text;
      whole = w.here ∙ ap (λ t. w.part ++ t) c.here;
      owned = refl;
      own_line = w.line;
      cells_line = c.line;
      names = w.names_in.names;
      body = subst (SpellsBody (Named ns) x.body) (sym body) x.spells;
    } in
    record {
      names = ns;
      program = p;
      taken = record { spelled = sp; distinct = w.distinct; few_names = w.names_in.few; few_cells = c.few; fits = x.fits; few_lines = omega (arith, all); short = w.short ∙ c.short ∙ x.short ∙ ap (λ t. lines_within 1024 0 t) z2; shallow = x.shallow };
      owns = refl;
      cells = refl;
      lines = omega (arith, all);
      body = sp.body;
      first = total;
    }

-- what the code has found, and what is read
counted-ok : (r : Result Found Refusal) (own : Head) → Ok own ≡ counted r → (f : Found) × (r ≡ Ok f) × (own.next ≡ f.next) × (own.many ≡ length f.names)
counted-ok (Ok f) own e = let q : own ≡ record { many = length f.names; next = f.next } = same_ok _ _ e in (f, refl, ap (λ m. m.next) q, ap (λ m. m.many) q)
counted-ok (Err d) own e = absurd (not_err d own (sym e))

counted-err : (r : Result Found Refusal) (d : Refusal) → Err d ≡ counted r → r ≡ Err d
counted-err (Ok f) d e = absurd (not_err d _ e)
counted-err (Err g) d e = let q : g ≡ d = cc in ap (λ m. Err m) q

module _ (text : List ℕ) where
  pub break-own : (d : Refusal) → Err d ≡ counted (own_at text) → Err d ≡ read_at text
  unfolding read_at
  break-own d e = rw (counted-err (own_at text) d e) refl

  module _ (own : Head) (eo : Ok own ≡ counted (own_at text)) where
    f : Found
    f = (counted-ok (own_at text) own eo).0

    fe : own_at text ≡ Ok f
    unfolding f
    fe = (counted-ok (own_at text) own eo).1

    fn : own.next ≡ f.next
    unfolding f
    fn = (counted-ok (own_at text) own eo).2

    fm : own.many ≡ length f.names
    unfolding f
    fm = (counted-ok (own_at text) own eo).3

    pub break-cells : (d : Refusal) → Err d ≡ cells_at text own.next → Err d ≡ read_at text
    unfolding read_at
    break-cells d e = let q : cells_at text f.next ≡ Err d = ap (λ m. cells_at text m) (sym fn) ∙ sym e in rw (fe, q) refl

    module _ (h : Head) (eh : Ok h ≡ cells_at text own.next) (k : ℕ) (ek : k ≡ head_lines_spec own.next h.next) where
      he : cells_at text f.next ≡ Ok h
      he = ap (λ m. cells_at text m) (sym fn) ∙ sym eh

      ke : k ≡ head_lines_spec f.next h.next
      ke = ek ∙ ap (λ m. head_lines_spec m h.next) fn

      block-is : (r : Result Stop Refusal) → ((ns : List (List ℕ)) (g : ℕ) → NamesIn ns text → 1024 - k < g → r ≡ block_at (place_in ns) text g 16 (1024 - k) h.next false)
          → block_at (place_in f.names) text 1025 16 (1024 - head_lines_spec f.next h.next) h.next false ≡ r
      block-is r b = sym (b f.names 1025 (own-sound text f fe).names_in (omega arith) ∙ ap (λ m. block_at (place_in f.names) text 1025 16 (1024 - m) h.next false) ke)

      pub break-stop : (d : Refusal) → ((ns : List (List ℕ)) (g : ℕ) → NamesIn ns text → 1024 - k < g → Err d ≡ block_at (place_in ns) text g 16 (1024 - k) h.next false) → Err d ≡ read_at text
      unfolding read_at
      break-stop d b = rw (fe, he, block-is (Err d) b) refl

      module _ (s : Stop) (b : (ns : List (List ℕ)) (g : ℕ) → NamesIn ns text → 1024 - k < g → Ok s ≡ block_at (place_in ns) text g 16 (1024 - k) h.next false) where
        pub break-end : (d : Refusal) → Err d ≡ whole s → Err d ≡ read_at text
        unfolding read_at
        break-end d e = rw (fe, he, block-is (Ok s) b, sym e) refl

        module _ (e : Stop) (ee : Ok e ≡ whole s) where
          shape_is : ◌≡◌ {A = Shape} (shape_of f h e) (record { owns = own.many; cells = h.many; lines = 1024 - e.left; body_at = h.next; first = k })
          shape_is =
              ap (λ m. record { owns = m; cells = h.many; lines = 1024 - e.left; body_at = h.next; first = head_lines_spec f.next h.next }) (sym fm)
              ∙ ap (λ m. record { owns = own.many; cells = h.many; lines = 1024 - e.left; body_at = h.next; first = m }) (sym ke)

          pub read_walk : Ok (record { owns = own.many; cells = h.many; lines = 1024 - e.left; body_at = h.next; first = k }) ≡ read_at text
          unfolding read_at
          read_walk = ap (λ m. Ok m) (sym shape_is) ∙ (let q : Ok (shape_of f h e) ≡ read_at text = rw (fe, he, block-is (Ok s) b, sym ee) refl in q)

          pub read_taken : ReadAs text (record { owns = own.many; cells = h.many; lines = 1024 - e.left; body_at = h.next; first = k })
          read_taken =
              let w = whole_is s.ending s e (sym ee) in
              let t : ReadAs text (shape_of f h s) = read_made text f h s (own-sound text f fe) (cells-sound text f.next h he) w.1 (block-is (Ok s) b) in
              subst (ReadAs text) shape_is (subst (λ m. ReadAs text (shape_of f h m)) (sym w.0) t)
