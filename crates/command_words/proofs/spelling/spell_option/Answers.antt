use Rattle.std.proofs.Common.{◌≡◌, false, rules}
use Rattle.std.specs.Str.{bytes_eq}
use Rattle.command_words.proofs.ReadLemmas.{option_given, option_unequal, option_absent}
use Rattle.command_words.proofs.spelling.spell_option.Goals as goal

pub returns-in_err-rest : goal.returns-in_err-rest
returns-in_err-rest c =
    let differs : bytes_eq c.args.word.now c.args.name.now ≡ false = search rules in
    rw c.from_residual.ensures (option_absent c.args.place c.args.name.now c.args.word.now differs c.in_err-rest.ensures)

pub returns-in_err-value : goal.returns-in_err-value
returns-in_err-value c =
    let differs : bytes_eq c.args.word.now c.args.name.now ≡ false = search rules in
    rw c.from_residual-in_err-value.ensures
    (option_unequal c.args.place c.args.name.now c.args.word.now c.in_ok-rest.rest.now differs c.in_ok-rest.ensures c.in_err-value.ensures)

pub returns : goal.returns
returns c =
    let differs : bytes_eq c.args.word.now c.args.name.now ≡ false = search rules in
    option_given c.args.place c.args.name.now c.args.word.now c.in_ok-rest.rest.now c.in_ok-value.value.now differs c.in_ok-rest.ensures c.in_ok-value.ensures
