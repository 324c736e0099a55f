-- The phase of a group only rises: a later mark of a group has no lower phase than an earlier one, and none has a higher one than the group has now.
use Rattle.std.proofs.Common.{◌≡◌, ℕ, zero, suc, ◌<◌, ◌≤◌, List, [], ◌∷◌, ◌++◌, length, get_or, sym, refl, ap, subst, inl, inr, le_of_suc-le-suc, not-suc-le-zero, arith}
use Rattle.std.proofs.lemmas.Bool.{cases_Bool}
use Rattle.lanes.specs.Step.{Touch, touched}
use Rattle.lanes.specs.Grid.{Group, Grid, Mark, Turn, of, release, no_group, gone_on, the_group, the_act, can, did, marks, marks_at, turn, turns, marked}
use Rattle.lanes.proofs.Places.{at-holds}
use Rattle.lanes.proofs.Turns.{move, turn-did, turn-idle, marked-did, marked-idle}
use Rattle.lanes.proofs.Crossing.{All}
use Rattle.lanes.proofs.Runs.{all_append, all_right, all-at}

pub did-rises : (n : ℕ) (d : Grid) (t : Turn) (g p : ℕ) → p ≤ (the_group d g).phase → p ≤ (the_group (did n d t) g).phase
unfolding the_group did
did-rises n d (of h l) g p k = at-holds no_group (λ (q : Group). p ≤ q.phase) d.groups_of h g (move l _) (λ _ z. z) k
did-rises n d (release h) g p k = at-holds no_group (λ (q : Group). p ≤ q.phase) d.groups_of h g gone_on (λ _ z. omega arith) k

pub turn-rises : (n : ℕ) (d : Grid) (t : Turn) (g p : ℕ) → p ≤ (the_group d g).phase → p ≤ (the_group (turn n d t) g).phase
turn-rises n d t g p k = elim (cases_Bool (can n d t)) [ inl e ↦ rw (turn-did n d t e) (did-rises n d t g p k) | inr e ↦ rw (turn-idle n d t e) k ]

pub turns-rise : (n : ℕ) (d : Grid) (ts : List Turn) (g p : ℕ) → p ≤ (the_group d g).phase → p ≤ (the_group (turns n d ts) g).phase
unfolding turns
turns-rise n d [] g p k = k
turns-rise n d (t ∷ ts) g p k = turns-rise n (turn n d t) ts g p (turn-rises n d t g p k)

-- a property of all marks, from one of each
pub all_map : {A : Type 0} (P Q : A → Type 0) (xs : List A) → ((x : A) → P x → Q x) → All P xs → All Q xs
all_map P Q [] f s = tt
all_map P Q (x ∷ xs) f s = (f x s.0, all_map P Q xs f s.1)

-- the marks of one turn have the phase that their group has now
abbrev pub Now : Grid → Mark → Type 0
Now d a = a.phase ≡ (the_group d a.by_group).phase

marks-now : (d : Grid) (g l : ℕ) (ts : List Touch) → All (Now d) (marks g l (the_group d g).phase ts)
unfolding marks
marks-now d g l [] = tt
marks-now d g l (t ∷ ts) = (refl, marks-now d g l ts)

pub now-at : (n : ℕ) (d : Grid) (t : Turn) → All (Now d) (marks_at n d t)
unfolding marks_at
now-at n d (of g l) = marks-now d g l (touched (the_act n d g l))
now-at n d (release g) = tt

-- marks of a row have no lower phase than their group had before it, and no higher one than it has after it
abbrev pub From : Grid → Mark → Type 0
From d a = (the_group d a.by_group).phase ≤ a.phase

abbrev pub To : Grid → Mark → Type 0
To d a = a.phase ≤ (the_group d a.by_group).phase

pub marked_from : (n : ℕ) (d : Grid) (ts : List Turn) → All (From d) (marked n d ts)
unfolding marked
marked_from n d [] = tt
marked_from n d (t ∷ ts) =
    elim (cases_Bool (can n d t)) [
      | inl e ↦
          let later : All (From d) (marked n (did n d t) ts) =
          all_map (From (did n d t)) (From d) (marked n (did n d t) ts) (λ a k. let q = did-rises n d t a.by_group (the_group d a.by_group).phase (omega arith) in omega arith) (marked_from n (did n d t) ts) in
          subst (λ (ms : List Mark). All (From d) ms) (sym (marked-did n d t ts e))
          (all_append (From d) (marks_at n d t) (marked n (did n d t) ts) (all_map (Now d) (From d) (marks_at n d t) (λ a k. omega arith) (now-at n d t)) later)
      | inr e ↦ subst (λ (ms : List Mark). All (From d) ms) (sym (marked-idle n d t ts e)) (marked_from n d ts)
    ]

pub marked-to : (n : ℕ) (d : Grid) (ts : List Turn) → All (To (turns n d ts)) (marked n d ts)
unfolding marked turns
marked-to n d [] = tt
marked-to n d (t ∷ ts) =
    elim (cases_Bool (can n d t)) [
      | inl e ↦
          let here : All (To (turns n (did n d t) ts)) (marks_at n d t) =
          all_map (Now d) (To (turns n (did n d t) ts)) (marks_at n d t)
          (λ a k. turns-rise n (did n d t) ts a.by_group a.phase (did-rises n d t a.by_group a.phase (omega arith))) (now-at n d t) in
          rw (marked-did n d t ts e, turn-did n d t e) (all_append (To (turns n (did n d t) ts)) (marks_at n d t) (marked n (did n d t) ts) here (marked-to n (did n d t) ts))
      | inr e ↦ rw (marked-idle n d t ts e, turn-idle n d t e) (marked-to n d ts)
    ]

-- b may come later than a
abbrev pub Follows : Mark → Mark → Type 0
Follows a b = a.by_group ≡ b.by_group → a.phase ≤ b.phase

pub rises : (n : ℕ) (d : Grid) (ts us : List Turn) (a b : Mark) (j k : ℕ) →
    j < length (marked n d ts) → get_or (marked n d ts) j a ≡ a →
    k < length (marked n (turns n d ts) us) → get_or (marked n (turns n d ts) us) k b ≡ b → Follows a b
rises n d ts us a b j k hj ej hk ek same =
    let e = turns n d ts in
    let low : To e a = all-at (To e) (marked n d ts) j a (marked-to n d ts) hj ej in
    let high : From e b = all-at (From e) (marked n e us) k b (marked_from n e us) hk ek in
    let z : (the_group e a.by_group).phase ≡ (the_group e b.by_group).phase = ap (λ (g : ℕ). (the_group e g).phase) same in
    omega arith

-- each mark of a list may come later than those before it
abbrev pub Risen : List Mark → Type 0
Risen [] = Unit {0}
Risen (a ∷ ms) = All (Follows a) ms × Risen ms

phase-now : (d : Grid) (a b : Mark) → Now d a → From d b → Follows a b
phase-now d a b p q same = let z : (the_group d a.by_group).phase ≡ (the_group d b.by_group).phase = ap (λ (g : ℕ). (the_group d g).phase) same in omega arith

-- the marks of one turn, then those of the turns behind it
joined : (d : Grid) (ms ks : List Mark) → All (Now d) ms → All (From d) ks → Risen ks → Risen (ms ++ ks)
joined d [] ks s t r = r
joined d (a ∷ ms) ks s t r = (
  all_append (Follows a) ms ks (all_map (Now d) (Follows a) ms (λ b q. phase-now d a b s.0 (omega arith)) s.1) (all_map (From d) (Follows a) ks (λ b q. phase-now d a b s.0 q) t),
  joined d ms ks s.1 t r,
)

pub row-risen : (n : ℕ) (d : Grid) (ts : List Turn) → Risen (marked n d ts)
unfolding marked
row-risen n d [] = tt
row-risen n d (t ∷ ts) =
    elim (cases_Bool (can n d t)) [
      | inl e ↦
          let later : All (From d) (marks_at n d t ++ marked n (did n d t) ts) = subst (λ (ms : List Mark). All (From d) ms) (marked-did n d t ts e) (marked_from n d (t ∷ ts)) in
          subst Risen (sym (marked-did n d t ts e))
          (joined d (marks_at n d t) (marked n (did n d t) ts) (now-at n d t) (all_right (From d) (marks_at n d t) (marked n (did n d t) ts) later) (row-risen n (did n d t) ts))
      | inr e ↦ subst Risen (sym (marked-idle n d t ts e)) (row-risen n d ts)
    ]

risen-at : (ms : List Mark) (j k : ℕ) (a b : Mark) → Risen ms → j < k → k < length ms → get_or ms j a ≡ a → get_or ms k b ≡ b → Follows a b
risen-at [] j k a b r h i p q = absurd (not-suc-le-zero i)
risen-at (c ∷ ms) j zero a b r h i p q = absurd (not-suc-le-zero h)
risen-at (c ∷ ms) zero (suc k) a b r h i p q = subst (λ (x : Mark). Follows x b) p (all-at (Follows c) ms k b r.0 (le_of_suc-le-suc i) q)
risen-at (c ∷ ms) (suc j) (suc k) a b r h i p q = risen-at ms j k a b r.1 (le_of_suc-le-suc h) (le_of_suc-le-suc i) p q

-- of two marks of a row, the later one of a group has no lower phase
pub marks-rise : (n : ℕ) (d : Grid) (ts : List Turn) (j k : ℕ) (a b : Mark) → j < k → k < length (marked n d ts) →
    get_or (marked n d ts) j a ≡ a → get_or (marked n d ts) k b ≡ b → a.by_group ≡ b.by_group → a.phase ≤ b.phase
marks-rise n d ts j k a b h i p q = risen-at (marked n d ts) j k a b (row-risen n d ts) h i p q
