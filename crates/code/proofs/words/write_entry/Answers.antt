use Rattle.std.proofs.Common.{◌≡◌, length, arith}
use Rattle.std.proofs.lemmas.Grind.{common_steps}
use Rattle.code.proofs.Entries.{wrote}
use Rattle.code.proofs.words.write_entry.Goals as goal

pub returns : goal.returns
returns c =
    let five : length c.copy_from_slice.new.self ≡ 5 = grind (arith, common_steps) in
    record {
      there = λ h. wrote c.args.steps.now c.copy_from_slice.new.self c.args.i _ c.args.text_line c.args.step h (omega arith) five (rw c.copy_from_slice.ensures.after c.words_of.ensures);
      missing = λ g. let z : ⊥ = omega arith in absurd z;
    }
