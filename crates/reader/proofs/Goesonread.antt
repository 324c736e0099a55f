-- What is refused with number 1 is refused at the first byte at which no text goes on so.
use Rattle.std.proofs.Common.{◌≡◌, ℕ, ◌+◌, ◌<◌, List, ◌++◌, length, take, Err, Result, sym, ◌∙◌, arith}
use Rattle.std.proofs.lemmas.List.{get_or_append_left, get_or-take, length-take-le, length-append}
use Rattle.grammar.specs.declared.refusals.Refusal.{Refusal}
use Rattle.grammar.specs.declared.refusals.Refusal.TheVariants.{Shape as No-text}
use Rattle.grammar.proofs.Goeson.{Agree}
use Rattle.reader.specs.Goeson.{GoesOn}
use Rattle.reader.specs.Texts.{read_at}
use Rattle.reader.specs.declared.texts.Shape.{Shape}
use Rattle.reader.proofs.Goesonheads.{read-viable}
use Rattle.reader.proofs.Goesonspelled.{read_right}
use Rattle.reader.proofs.Goesontext.{read_same}

-- a text that begins with the same bytes
same_bytes : (text z : List ℕ) (p : ℕ) → p < length text → Agree p text (take (p + 1) text ++ z)
same_bytes text z p h =
    let n : length (take (p + 1) text) ≡ p + 1 = length-take-le (p + 1) text (omega arith) in
    record {
      bytes = λ k l. sym (get_or_append_left (take (p + 1) text) z 0 k (omega arith) ∙ get_or-take (p + 1) text k 0 (omega arith));
      first = h;
      second = omega (arith, length-append (take (p + 1) text) z);
    }

pub goes_on : (text : List ℕ) (r : Result Shape Refusal) → r ≡ read_at text → (p : ℕ) → r ≡ Err (No-text p) → GoesOn text p
goes_on text r w p e =
    let f : read_at text ≡ Err (No-text p) = sym w ∙ e in
    let b = read-viable text p f in
    record {
      within = b.within;
      before = b.before;
      upto = λ h v. (read_right (take (p + 1) text ++ v.rest) v.names v.program v.shape).shaped p (read_same text (take (p + 1) text ++ v.rest) p f (same_bytes text v.rest p h));
      itself = λ ns q s. (read_right text ns q s).shaped p f;
    }
