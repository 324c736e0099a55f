-- A run of pieces that are printed is the line that is wanted.
use Rattle.std.proofs.Common.{◌≡◌, ℕ, cond, List, codes}
use Rattle.formats.specs.declared.pen.Pen.{Pen}
use Rattle.formats.specs.declared.told.Touch.{Touch}
use Rattle.formats.specs.Wrote.{Writes}
use Rattle.formats.specs.Printed.{with_number, touch_words}
use Rattle.formats.proofs.Pieces.{writes_more}

pub touch-wrote : (t : Touch) (a b c d e : Pen) (ws : List ℕ)
    → Writes a b (with_number (codes " group ") t.group)
    → Writes b c (with_number (codes " lane ") t.lane)
    → Writes c d (with_number (codes " phase ") t.phase)
    → Writes d e ws
    → cond t.wrote (codes " wrote") (codes " read") ≡ ws
    → Writes a e (touch_words t)
unfolding touch_words
touch-wrote t a b c d e ws p₁ p₂ p₃ p₄ same =
    rw same (writes_more a b e _ _ p₁ (writes_more b c e _ _ p₂ (writes_more c d e _ _ p₃ p₄)))
