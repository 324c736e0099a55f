-- The field that was copied in is the one that the bytes are, and what was loaded stands for the beginning.
use Rattle.std.proofs.Common.{◌≡◌, ℕ, suc, ◌+◌, ◌-◌, ◌*◌, ◌<◌, ◌≤◌, List, [], ◌++◌, length, get_or, take, sym, ap, ◌∙◌, arith}
use borrow.Rule.Slice.PartMut.{put_mid, post_of}
use Rattle.std.proofs.lemmas.List.{get_or-append_right, get_or_append_left, length-take-le}
use Rattle.std.proofs.lemmas.List.FromFn.{get_or-map-range_with_len, length-map-range_with_len}
use Rattle.lanes.specs.Syntax.{Program}
use Rattle.lanes.specs.Grid.{begin}
use Rattle.grammar.proofs.Begins.{spelled-names}
use Rattle.grammar.specs.Taken.{Distinct}
use Rattle.formats.specs.Field.{cells_read, cell_at}
use Rattle.code.specs.Lines.{left_at}
use Rattle.code.specs.Make.{Compiled}
use Rattle.code.proofs.Left.{left-zero}
use Rattle.store.specs.declared.Sizes.{Sizes}
use Rattle.store.specs.Layout.{base}
use Rattle.store.specs.Lent.{upto, field_of, line_at, Started, Begun}
use Rattle.store.proofs.Upto.{upto-same}
use Rattle.touches.specs.Whole.{Layout, AllKept}
use Rattle.machine.specs.Sofar.{layout}
use Rattle.calls.specs.Load.{Loads, For}

cell-here : (a k m c : ℕ) (xs ys bs : List ℕ) → a ≤ length xs → ys ≡ cells_read bs m → c < m → get_or (put_mid a k xs ys) (a + c) 0 ≡ cell_at bs c
unfolding cells_read
cell-here a k m c xs ys bs h e l =
    let long : length ys ≡ m = ap length e ∙ length-map-range_with_len (cell_at bs) 0 m in
    get_or-append_right (take a xs) (ys ++ post_of a k xs) a (a + c) 0 (length-take-le a xs h) (omega arith)
    ∙ (ap (λ (j : ℕ). get_or (ys ++ post_of a k xs) j 0) (back a c)
    ∙ (get_or_append_left ys (post_of a k xs) 0 c (omega arith)
    ∙ (ap (λ (zs : List ℕ). get_or zs c 0) e ∙ get_or-map-range_with_len (cell_at bs) 0 m c c 0 l (omega arith))))
  where
    back : (a c : ℕ) → (a + c) - a ≡ c
    back a c = omega arith

pub field-copied : (z : Sizes) (from k m : ℕ) (xs ys bs : List ℕ) → from ≡ z.groups * z.shared → from ≤ length xs → ys ≡ cells_read bs m → m ≡ z.field →
    field_of z (put_mid from k xs ys) ≡ cells_read bs z.field
unfolding field_of cells_read base upto
field-copied z from k m xs ys bs same h e n =
    rw (← same)
    (upto-same 0 (λ c. get_or (put_mid from k xs ys) (from + c) 0) (cell_at bs) z.field
    (λ c l. cell-here from k m c xs ys bs h e (omega arith)))

pub loads : (ns : List (List ℕ)) (p : Program) (z : Sizes) (text bytes steps after ls cs ls' cs' ks : List ℕ) (r : ℕ) → For ns p z text steps → Compiled ns p text steps after r → Started z ls cs ls' cs' →
    field_of z cs ≡ cells_read bytes z.field → ((y : Layout) → AllKept y [] ks) → Loads ns p z text bytes after ls' cs' ks r
unfolding Begun line_at
loads ns p z text bytes steps after ls cs ls' cs' ks r f c s e k = record {
  loaded = record { names = spelled-names ns p text f.taken.spelled f.taken.few_names; distinct = f.taken.distinct; owned = sym f.taken.spelled.owned ∙ f.owns; coded = c.coded };
  few = omega (arith, c.few, f.taken.few_lines);
  begins = s.begun (left_at p.body) p (left-zero p.body) f.owns f.shared ∙ ap (λ (x : List ℕ). begin p z.groups z.lanes x) e;
  lines_are = c.lines;
  lined = s.lined (suc r) (omega arith);
  phases = s.phases;
  first_line = λ g l h m. s.words g 0 l h (omega arith) m;
  kept = k (layout z);
}
