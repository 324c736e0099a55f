-- Steps in words, 16 for each: what kind of step it is, what it works with, and in the last word the line of the text.
use Rattle.std.specs.Prelude.{◌≡◌, ℕ, ◌+◌, ◌*◌, ◌/◌, ◌<◌, ◌≤◌, Bool, true, false, cond, ◌&&◌, ◌⊎◌, List, length, ◌==◌, ◌≢◌, nat_lt, slice_index}
use Rattle.code.specs.declared.step.Step.{Step}
use Rattle.code.specs.declared.step.Step.TheVariants.{Put, Read, Write, Branch, Jump, Barrier, End}

-- The step that a kind and five words are.
abbrev pub step_of : ℕ → ℕ → ℕ → ℕ → ℕ → Step
step_of kind a b c d =
    cond (kind == 1) (Put a b c)
    (cond (kind == 2) (Read false a b c)
    (cond (kind == 3) (Read true a b c)
    (cond (kind == 4) (Write false a b c)
    (cond (kind == 5) (Write true a b c)
    (cond (kind == 6) (Branch a b c d false)
    (cond (kind == 7) (Branch a b c d true)
    (cond (kind == 8) (Jump a)
    (cond (kind == 9) (Barrier a) End))))))))

-- Entry i is one of the first `lines`, and the words hold it.
abbrev pub there : List ℕ → ℕ → ℕ → Bool
there words lines i = nat_lt i lines && nat_lt i (length words / 16)

-- The step that stands at entry i of the first `lines`; behind them is the end.
unfoldable pub step_at : List ℕ → ℕ → ℕ → Step
step_at words lines i =
    cond (there words lines i) (step_of (slice_index words (i * 16)) (slice_index words (i * 16 + 1)) (slice_index words (i * 16 + 2)) (slice_index words (i * 16 + 3)) (slice_index words (i * 16 + 4))) End

-- The line of the text, from 1, that entry i comes from.
unfoldable pub text_line_spec : List ℕ → ℕ → ℕ
text_line_spec words i = slice_index words (i * 16 + 15)

-- The words of entry i: what kind of step it is, four that it works with, and the line of the text.
pub record EntryAt (words : List ℕ) (i : ℕ) (e : List ℕ) : Type 0 where
  pub kind : slice_index e 0 ≡ slice_index words (i * 16)
  pub first : slice_index e 1 ≡ slice_index words (i * 16 + 1)
  pub second : slice_index e 2 ≡ slice_index words (i * 16 + 2)
  pub third : slice_index e 3 ≡ slice_index words (i * 16 + 3)
  pub fourth : slice_index e 4 ≡ slice_index words (i * 16 + 4)
  pub line : slice_index e 15 ≡ slice_index words (i * 16 + 15)

-- The words after entry i was written: it is the step, and the line of the text; every other word is as it was.
pub record Wrote (words after : List ℕ) (i : ℕ) (s : Step) (line : ℕ) : Type 0 where
  pub here : (lines : ℕ) → i < lines → step_at after lines i ≡ s
  pub told : text_line_spec after i ≡ line
  pub others : (j lines : ℕ) → (j ≢ i) → step_at after lines j ≡ step_at words lines j
  pub lines_kept : (j : ℕ) → (j ≢ i) → text_line_spec after j ≡ text_line_spec words j
  pub long : length after ≡ length words
  pub words_kept : (k : ℕ) → (k < i * 16) ⊎ (i * 16 + 16 ≤ k) → slice_index after k ≡ slice_index words k
