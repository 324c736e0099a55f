use Rattle.std.proofs.Common.{◌∙◌, rules}
use Rattle.writer.proofs.Heads.{one-program}
use Rattle.writer.proofs.Lines.{anew, every-program}
use Rattle.writer.proofs.Renewed.{renewed}
use Rattle.writer.proofs.anew.rewrite.Goals as goal

pub returns-then-out-text : goal.returns-then-out-text
returns-then-out-text c = record { refused = search rules; written = tt; once = one-program; anew = anew; every = every-program }

pub returns : goal.returns
returns c = record {
  refused = (c.copy_all.ensures.len, c.copy_all.ensures.same);
  written = λ ns p t. c.copy_all.ensures.copied ∙ renewed ns p c.args.text.now t.few_cells t.fits t.spelled;
  once = one-program;
  anew = anew;
  every = every-program;
}
