-- One piece written behind another.
use Rattle.std.proofs.Common.{◌≡◌, ℕ, ◌+◌, ◌<◌, ◌≤◌, List, [], ◌∷◌, ◌++◌, length, get_or, take, drop, set, sym, refl, ap, ◌∙◌, add-zero, add_assoc, add-one, arith}
use Rattle.std.proofs.lemmas.List.{append_assoc, length-append, length-take-le, length-drop, take_more, flat_map_more, set_split, take_at, drop_at, drop-drop, take-append-drop}
use Rattle.std.specs.List.{flat_map}
use borrow.Rule.Slice.PartMut.{put_mid}
use Rattle.formats.specs.declared.pen.Pen.{Pen}
use Rattle.formats.specs.Wrote.{written, Wrote, Writes}

wrote_none : (b : List ℕ) (at : ℕ) → Wrote b b at at []
unfolding written
wrote_none b at = record { ends = sym (add-zero at); bytes = rw add-zero (sym (take-append-drop at b)) }

pub wrote_one : (b : List ℕ) (at x : ℕ) → at < length b → Wrote b (set b at x) at (at + 1) (x ∷ [])
unfolding written
wrote_one b at x h = record { ends = refl; bytes = rw add-one (set_split b at x h) }

-- What stands up to the end of what was written.
written-front : (b ws : List ℕ) (at : ℕ) → at ≤ length b → take (at + length ws) (written b at ws) ≡ take at b ++ ws
unfolding written
written-front b ws at h =
    rw (sym (append_assoc (take at b) ws (drop (at + length ws) b)))
    (take_at (take at b ++ ws) (drop (at + length ws) b) (at + length ws) (length-append (take at b) ws ∙ ap (λ n. n + length ws) (length-take-le at b h)))

written-rest : (b ws : List ℕ) (at k : ℕ) → at ≤ length b → drop (at + length ws + k) (written b at ws) ≡ drop (at + length ws + k) b
unfolding written
written-rest b ws at k h =
    rw (
      sym (drop-drop k (at + length ws) (take at b ++ (ws ++ drop (at + length ws) b))),
      sym (append_assoc (take at b) ws (drop (at + length ws) b)),
      drop_at (take at b ++ ws) (drop (at + length ws) b) (at + length ws) (length-append (take at b) ws ∙ ap (λ n. n + length ws) (length-take-le at b h)),
    )
    (drop-drop k (at + length ws) b)

written_is : (xs ws : List ℕ) (at : ℕ) → written xs at ws ≡ take at xs ++ (ws ++ drop (at + length ws) xs)
unfolding written
written_is xs ws at = refl

written-more : (b ws vs : List ℕ) (at : ℕ) → at ≤ length b → written (written b at ws) (at + length ws) vs ≡ written b at (ws ++ vs)
written-more b ws vs at h =
    rw (written_is (written b at ws) vs (at + length ws), written-front b ws at h, written-rest b ws at (length vs) h, written_is b (ws ++ vs) at, length-append ws vs, add_assoc at (length ws) (length vs))
    (simp append_assoc)

wrote-more : (b m a : List ℕ) (at k to : ℕ) (ws vs : List ℕ) → at ≤ length b → Wrote b m at k ws → Wrote m a k to vs → Wrote b a at to (ws ++ vs)
wrote-more b m a at k to ws vs h p q =
    record {
      ends = rw length-append (omega (arith, p.ends, q.ends));
      bytes = rw (q.bytes, p.ends, p.bytes) (written-more b ws vs at h);
    }

-- A write to a part of the slice.
pub wrote-part : (b ys ws : List ℕ) (at k : ℕ) → ys ≡ ws → k ≡ length ws → Wrote b (put_mid at k b ys) at (at + length ws) ws
unfolding written
wrote-part b ys ws at k e f = record { ends = refl; bytes = rw (e, f, drop-drop (length ws) at b) refl }

pub part-long : (b ys : List ℕ) (at k : ℕ) → at + k ≤ length b → length ys ≡ k → length (put_mid at k b ys) ≡ length b
part-long b ys at k h e =
    simp (length-append, length-drop) (omega (arith, length-take-le at b (omega arith)))

-- The same for pens.
pub writes_none : (a : Pen) → a.at ≤ length a.out.now → Writes a a []
writes_none a h = record { same_slice = refl; room = refl; inside = h; wrote = wrote_none a.out.now a.at }

pub writes_more : (a b c : Pen) (ws vs : List ℕ) → Writes a b ws → Writes b c vs → Writes a c (ws ++ vs)
writes_more a b c ws vs p q =
    record {
      same_slice = q.same_slice ∙ p.same_slice;
      room = q.room ∙ p.room;
      inside = q.inside;
      wrote = wrote-more _ _ _ _ _ _ ws vs (omega arith) p.wrote q.wrote;
    }

pub writes_both : (a b c : Pen) (ws vs us : List ℕ) → Writes a b ws → Writes b c vs → ws ++ vs ≡ us → Writes a c us
writes_both a b c ws vs us p q e = rw (sym e) (writes_more a b c ws vs p q)

-- One more piece behind those of the elements before it.
pub writes_next : (f : ℕ → List ℕ) (a b c : Pen) (xs : List ℕ) (i : ℕ) → i < length xs
    → Writes a b (flat_map f (take i xs)) → Writes b c (f (get_or xs i 0)) → Writes a c (flat_map f (take (i + 1) xs))
writes_next f a b c xs i l p q = writes_both a b c _ _ _ p q (rw (take_more xs i 0 l) (flat_map_more f [] (take i xs) (get_or xs i 0)))
