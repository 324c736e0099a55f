-- One slot of neighbouring lanes: written as a whole, it is written lane by lane.
use Rattle.std.proofs.Common.{◌≡◌, ℕ, zero, suc, ◌+◌, ◌-◌, ◌<◌, ◌≤◌, ◌≢◌, List, length, get_or, set, sym, refl, ap, ◌∙◌, add-one, arith, length-set}
use lib.Seq.{paste}
use borrow.Rule.Slice.PartMut.{put_mid}
use Rattle.std.proofs.lemmas.List.Edits.{paste_none, paste_more}
use Rattle.std.proofs.lemmas.Slice.{put_mid-paste}
use Rattle.std.proofs.lemmas.List.{set_comm}
use Rattle.store.specs.declared.Sizes.{Sizes}
use Rattle.store.specs.Layout.{slots, place_of, room}
use Rattle.store.specs.Rows.{slot_row}
use Rattle.store.proofs.Slots.{place-lt, place_same}

-- neighbouring lanes are neighbouring words
pub place-next : (z : Sizes) (g s l i : ℕ) → place_of z g s (l + i) ≡ place_of z g s l + i
unfolding place_of
place-next z g s l i = omega arith

pub row-range : (z : Sizes) (g s l n : ℕ) → g < z.groups → s < slots z → l < z.lanes → l + n ≤ z.lanes → place_of z g s l + n ≤ room z
row-range z g s l n hg hs hl hn =
    let i = z.lanes - l - 1 in
    let p = place-lt z g s (l + i) hg hs (omega arith) in
    let q = place-next z g s l i in
    omega arith

pub row-long : (z : Sizes) (g s l : ℕ) (v : ℕ → ℕ) (n : ℕ) (ls : List ℕ) → length (slot_row z g s l v n ls) ≡ length ls
unfolding slot_row
row-long z g s l v zero ls = refl
row-long z g s l v (suc n) ls = length-set (slot_row z g s l v n ls) (place_of z g s (l + n)) (v n) ∙ row-long z g s l v n ls

-- only what is written matters
pub row_as : (z : Sizes) (g s l : ℕ) (v w : ℕ → ℕ) (n : ℕ) (ls : List ℕ) → ((i : ℕ) → i < n → v i ≡ w i) → slot_row z g s l v n ls ≡ slot_row z g s l w n ls
unfolding slot_row
row_as z g s l v w zero ls h = refl
row_as z g s l v w (suc n) ls h = rw (h n (omega arith), row_as z g s l v w n ls (λ i k. h i (omega arith))) refl

row-paste : (z : Sizes) (g s l : ℕ) (ls ys : List ℕ) (n : ℕ) → n ≤ length ys → place_of z g s l + n ≤ length ls →
    paste ls (place_of z g s l) ys n ≡ slot_row z g s l (λ i. get_or ys i 0) n ls
unfolding slot_row
row-paste z g s l ls ys zero h k = sym (paste_none ls (place_of z g s l) ys)
row-paste z g s l ls ys (suc n) h k =
    let e = paste_more ls (place_of z g s l) ys n 0 (omega arith) (omega arith) in
    let p : paste ls (place_of z g s l) ys n ≡ slot_row z g s l (λ i. get_or ys i 0) n ls = row-paste z g s l ls ys n (omega arith) (omega arith) in
    ap (λ m. paste ls (place_of z g s l) ys m) (sym (add-one n)) ∙ sym e ∙ rw (p, place-next z g s l n) refl

pub row_written : (z : Sizes) (g s l : ℕ) (v : ℕ → ℕ) (n a k : ℕ) (ls ys : List ℕ) → a ≡ place_of z g s l → k ≡ n → length ys ≡ n → place_of z g s l + n ≤ length ls →
    ((i : ℕ) → i < length ys → get_or ys i 0 ≡ v i) → put_mid a k ls ys ≡ slot_row z g s l v n ls
row_written z g s l v n a k ls ys ea ek e fit h =
    rw (ea, ek) (put_mid-paste (place_of z g s l) n ls ys ys n refl refl (sym e) ∙ row-paste z g s l ls ys n (omega arith) fit
    ∙ row_as z g s l (λ i. get_or ys i 0) v n ls (λ i m. h i (omega arith)))

-- a write elsewhere may come before or after
row-set : (z : Sizes) (g s l : ℕ) (v : ℕ → ℕ) (n : ℕ) (ls : List ℕ) (p x : ℕ) → ((i : ℕ) → i < n → p ≢ place_of z g s (l + i)) →
    slot_row z g s l v n (set ls p x) ≡ set (slot_row z g s l v n ls) p x
unfolding slot_row
row-set z g s l v zero ls p x ne = refl
row-set z g s l v (suc n) ls p x ne =
    rw (row-set z g s l v n ls p x (λ i h. ne i (omega arith))) (set_comm (slot_row z g s l v n ls) p (place_of z g s (l + n)) x (v n) (ne n (omega arith)))

-- two slots of one more lane
pub two-more : (z : Sizes) (g s l : ℕ) (v w : ℕ → ℕ) (n : ℕ) (ls : List ℕ) → 0 < s → s < slots z → l + suc n ≤ z.lanes →
    slot_row z g 0 l w (suc n) (slot_row z g s l v (suc n) ls)
    ≡ set (set (slot_row z g 0 l w n (slot_row z g s l v n ls)) (place_of z g s (l + n)) (v n)) (place_of z g 0 (l + n)) (w n)
unfolding slot_row
two-more z g s l v w n ls h0 hs hl =
    rw (row-set z g 0 l w n (slot_row z g s l v n ls) (place_of z g s (l + n)) (v n)
    (λ i h e. let p = place_same z g s (l + n) g 0 (l + i) hs (omega arith) (omega arith) (omega arith) e in let q = p.1 in omega arith)) refl

pub one_more : (z : Sizes) (g s l : ℕ) (v : ℕ → ℕ) (n : ℕ) (ls : List ℕ) → slot_row z g s l v (suc n) ls ≡ set (slot_row z g s l v n ls) (place_of z g s (l + n)) (v n)
unfolding slot_row
one_more z g s l v n ls = refl

pub row_zero : (z : Sizes) (g s l : ℕ) (v : ℕ → ℕ) (ls : List ℕ) → slot_row z g s l v 0 ls ≡ ls
unfolding slot_row
row_zero z g s l v ls = refl
