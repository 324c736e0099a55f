-- One more cell behind those that are printed.
use Rattle.std.proofs.Common.{◌≡◌, ℕ, ◌+◌, ◌<◌, ◌≤◌, List, [], ◌∷◌, ◌++◌, length, get_or, take, sym, ap, ◌∙◌, arith}
use Rattle.std.proofs.lemmas.List.{append_assoc, append-nil, take_more, length-take-le}
use Rattle.formats.specs.Hex.{hex_eight}
use Rattle.formats.specs.Wrote.{Writes}
use Rattle.formats.specs.declared.pen.Pen.{Pen}
use Rattle.formats.specs.Printed.{byte_behind, lines_from}
use Rattle.formats.proofs.Pieces.{writes_none, writes_more, writes_both}

pub lines_more : (n i j : ℕ) (cs : List ℕ) (c : ℕ) → j ≡ i + length cs → lines_from n i (cs ++ (c ∷ [])) ≡ lines_from n i cs ++ (hex_eight c ++ (byte_behind n j ∷ []))
unfolding lines_from
lines_more n i j [] c e =
    let e' : j ≡ i = omega arith in rw e' (append-nil (hex_eight c ++ (byte_behind n i ∷ [])))
lines_more n i j (d ∷ cs) c e =
    let e' : j ≡ i + 1 + length cs = omega arith in
    ap (λ (x : List ℕ). (hex_eight d ++ (byte_behind n i ∷ [])) ++ x) (lines_more n (i + 1) j cs c e')
    ∙ sym (append_assoc (hex_eight d ++ (byte_behind n i ∷ [])) (lines_from n (i + 1) cs) (hex_eight c ++ (byte_behind n j ∷ [])))

pub lines_none : (n : ℕ) (a : Pen) → a.at ≤ length a.out.now → Writes a a (lines_from n 0 [])
unfolding lines_from
lines_none n a h = writes_none a h

pub lines_step : (a b c d : Pen) (cs : List ℕ) (i x : ℕ) → i < length cs → x ≡ byte_behind (length cs) i
    → Writes a b (lines_from (length cs) 0 (take i cs)) → Writes b c (hex_eight (get_or cs i 0)) → Writes c d (x ∷ [])
    → Writes a d (lines_from (length cs) 0 (take (i + 1) cs))
lines_step a b c d cs i x l e p q r =
    let z : i ≡ 0 + length (take i cs) = omega (arith, length-take-le i cs (omega arith)) in
    writes_both a b d _ _ _ p (writes_more b c d _ _ q r)
    (rw (take_more cs i 0 l, e) (sym (lines_more (length cs) 0 i (take i cs) (get_or cs i 0) z)))
