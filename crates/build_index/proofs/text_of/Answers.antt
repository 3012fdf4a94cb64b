-- What is ASCII is UTF-8.
use Rattle.std.proofs.Common.{arith}
use Rattle.std.proofs.lemmas.Grind.{common_steps}
use Rattle.std.proofs.lemmas.Str.{IsUtf8-from_ascii}
use Rattle.build_index.proofs.text_of.Goals as goal

pub unwrap-requires : goal.unwrap-requires
unwrap-requires c = grind (arith, common_steps, IsUtf8-from_ascii c.args.name.now c.requires, c.from_utf8.ensures.cases)
