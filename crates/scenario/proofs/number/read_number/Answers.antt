use Rattle.std.proofs.Common.{rules}
use Rattle.scenario.proofs.Numbers.{parsed}
use Rattle.scenario.proofs.number.read_number.Goals as goal

pub returns : goal.returns
returns c = let m = c.map_err.ensures.cases in parsed c.args.word.now c.parse.result c.map_err.result (search rules) (search rules) c.parse.ensures.value.0 (search rules)
