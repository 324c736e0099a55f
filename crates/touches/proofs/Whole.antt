-- One cell's touch in the slice of all.
use Rattle.std.proofs.Common.{◌≡◌, ℕ, ◌+◌, ◌*◌, ◌<◌, Bool, ◌⊎◌, List, [], length, get_or, Some, None, Option, is_some, true, false, sym, refl, ◌∙◌, subst, inl, inr, arith}
use Rattle.std.proofs.lemmas.Bool.{cases_eq, true≢false, false≢true}
use Rattle.lanes.specs.Grid.{Mark}
use Rattle.touches.specs.declared.Who.{Who}
use Rattle.touches.specs.declared.Held.{Held}
use Rattle.touches.specs.declared.Readers.TheVariants.{Nobody}
use Rattle.touches.specs.declared.Found.{Found}
use Rattle.touches.specs.Kept.{mark_of, Among, Keeps, Rising, AnswersFor}
use Rattle.touches.specs.Code.{look_of, held_of, held_put, entry_of, unpacked_of}
use Rattle.touches.specs.Whole.{Layout, AllKept, Keepable, Touched}
use Rattle.touches.proofs.Marks.{more}
use Rattle.touches.proofs.Finding.{look-exact}
use Rattle.touches.proofs.Keeping.{keep-kept, other-cell}
use Rattle.touches.proofs.Words.{Small, put_same, put_other}

pub room_for : (y : Layout) (w c i : ℕ) (a : Who) (ks : List ℕ) → Keepable y w c i a ks → 6 * i + 5 < length ks
room_for y w c i a ks k = let h = k.laid.within w c k.there in let e = k.spot in let r = k.room in omega arith

kept_here : (y : Layout) (w c i : ℕ) (ms : List Mark) (ks : List ℕ) (a : Who) → Keepable y w c i a ks → AllKept y ms ks → Keeps w c ms (held_of ks i)
unfolding AllKept
kept_here y w c i ms ks a k all = let P : ℕ → Type 0 = λ j. Keeps w c ms (held_of ks j) in subst P k.spot (all w c k.there)

pub answers : (y : Layout) (w c i : ℕ) (ms : List Mark) (ks : List ℕ) (a : Who) (wrote : Bool) → Keepable y w c i a ks → AllKept y ms ks → Rising ms (mark_of w c a wrote) →
    AnswersFor w c ms (mark_of w c a wrote) (look_of (held_of ks i) a wrote)
answers y w c i ms ks a wrote k all rise = look-exact w c ms (held_of ks i) a wrote (kept_here y w c i ms ks a k all) rise

pub kept_more : (y : Layout) (w c i : ℕ) (ms : List Mark) (ks : List ℕ) (a : Who) (wrote : Bool) → Keepable y w c i a ks → AllKept y ms ks → Rising ms (mark_of w c a wrote) →
    look_of (held_of ks i) a wrote ≡ None → AllKept y (more ms (mark_of w c a wrote)) (held_put ks i (held_of ks i) a wrote)
unfolding AllKept
kept_more y w c i ms ks a wrote k all rise none v e there = by (cases_eq (y.spot v e) i)
  where
    small : Small a
    small = record { group = k.group; lane = k.lane; line = k.line }

    by : (y.spot v e ≡ i) ⊎ (y.spot v e ≡ i → ⊥) → Keeps v e (more ms (mark_of w c a wrote)) (held_of (held_put ks i (held_of ks i) a wrote) (y.spot v e))
    by (inl s) =
        let p = k.laid.apart v e w c there k.there (s ∙ sym k.spot) in
        rw (s, p.0, p.1, put_same ks i a wrote (room_for y w c i a ks k) small) (keep-kept w c ms (held_of ks i) a wrote (kept_here y w c i ms ks a k all) rise none)
    by (inr ne) =
        rw (put_other ks i (y.spot v e) (held_of ks i) a wrote ne)
        (other-cell v e ms (held_of ks (y.spot v e)) w c a wrote (λ p q. ne (rw (sym p, sym q) k.spot)) (all v e there))

-- words that are all 0 keep no mark
none-entry : (ks : List ℕ) → ((k : ℕ) → get_or ks k 0 ≡ 0) → (j : ℕ) → entry_of ks j ≡ None
unfolding entry_of unpacked_of
none-entry ks z j = rw (z (2 * j + 1))

none-held : (ks : List ℕ) → ((k : ℕ) → get_or ks k 0 ≡ 0) → (i : ℕ) → held_of ks i ≡ record { writer = None; readers = Nobody }
unfolding held_of
none-held ks z i = rw (none-entry ks z (3 * i), none-entry ks z (3 * i + 1))

pub none_kept : (y : Layout) (ks : List ℕ) → ((k : ℕ) → get_or ks k 0 ≡ 0) → AllKept y [] ks
unfolding AllKept Among
none_kept y ks z w c there = rw (none-held ks z (y.spot w c)) (record { writer = λ m was. was.among; readers = λ m was. was.among })

-- the two ways of a touch, as the code takes them
pub touch-none : (y : Layout) (w c i : ℕ) (ms : List Mark) (ks ks' : List ℕ) (k : Held) (a : Who) (wrote : Bool) (r : Option Found) → is_some r ≡ false → k ≡ held_of ks i → r ≡ look_of k a wrote → ks' ≡ held_put ks i k a wrote →
    Keepable y w c i a ks → AllKept y ms ks → Rising ms (mark_of w c a wrote) → Touched y w c ms ks ks' a wrote r
touch-none y w c i ms ks ks' k a wrote (Some f) is h look e ok all rise = absurd (true≢false is)
touch-none y w c i ms ks ks' k a wrote None is h look e ok all rise =
    let none : look_of (held_of ks i) a wrote ≡ None = rw (sym h) (sym look) in
    let P : Option Found → Type 0 = AnswersFor w c ms (mark_of w c a wrote) in
    (subst P none (answers y w c i ms ks a wrote ok all rise), rw (e, h) (kept_more y w c i ms ks a wrote ok all rise none))

pub touch-some : (y : Layout) (w c i : ℕ) (ms : List Mark) (ks : List ℕ) (k : Held) (a : Who) (wrote : Bool) (r : Option Found) → is_some r ≡ true → k ≡ held_of ks i → r ≡ look_of k a wrote →
    Keepable y w c i a ks → AllKept y ms ks → Rising ms (mark_of w c a wrote) → Touched y w c ms ks ks a wrote r
touch-some y w c i ms ks k a wrote None is h look ok all rise = absurd (false≢true is)
touch-some y w c i ms ks k a wrote (Some f) is h look ok all rise =
    let some : look_of (held_of ks i) a wrote ≡ Some f = rw (sym h) (sym look) in
    let P : Option Found → Type 0 = AnswersFor w c ms (mark_of w c a wrote) in
    let r = subst P some (answers y w c i ms ks a wrote ok all rise) in (r.0, r.1, refl)
