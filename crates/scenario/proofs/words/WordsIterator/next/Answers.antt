use Rattle.std.proofs.Common.{◌<◌, ◌∷◌, length, subst, ap, ◌∙◌, sym, arith}
use Rattle.scenario.specs.Texts.{uncommented, words_of}
use Rattle.scenario.proofs.Cuts.{none_left, first_word, stop_len, stop_boundary}
use Rattle.scenario.proofs.words.WordsIterator.next.Goals as goal

pub split_at-requires : goal.split_at-requires
split_at-requires c = stop_boundary _ _ (stop_len _ _ _ c.first_stop.ensures c.unwrap_or-len.ensures)

pub returns-then-len-eq0-clause-steps : goal.returns-then-len-eq0-clause-steps
returns-then-len-eq0-clause-steps c =
    let text = c.trim_start_matches-text in
    let none = none_left c.args.self.now.rest.now text.result.now text.ensures.matches (sym (stop_len _ _ _ c.first_stop.ensures c.unwrap_or-len.ensures) ∙ c.if-len-eq0.true) in
    (none, none)

pub returns-clause-steps : goal.returns-clause-steps
returns-clause-steps c =
    let text = c.trim_start_matches-text in
    let cut = c.split_at.ensures in
    let some : 0 < length c.split_at.result.0.now = omega (arith, cut.front_len, c.if-len-eq0.false) in
    first_word c.args.self.now.rest.now text.result.now c.unwrap_or-len.result text.ensures.matches (stop_len _ _ _ c.first_stop.ensures c.unwrap_or-len.ensures) (subst (λ w. 0 < length w) cut.front some) ∙ (λ i. sym cut.front i ∷ words_of (uncommented (sym cut.back i)))

-- one word fewer is left
pub returns-clause-goes : goal.returns-clause-goes
returns-clause-goes c =
    let fewer = ap length (returns-clause-steps c) in
    record { on = λ _. (tt, tt, omega arith); keeps = tt; rests = λ _. tt }
