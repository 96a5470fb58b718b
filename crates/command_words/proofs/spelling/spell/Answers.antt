use Rattle.std.proofs.Common.{◌∙◌, sym, codes}
use Rattle.command_words.specs.declared.place.Place.TheVariants.{Number, Jobs}
use Rattle.command_words.specs.Words.{Text, Spelling, option_or, flag_or_positional}
use Rattle.command_words.proofs.spelling.spell.Goals as goal

-- what `spelling` comes to where the first options are not met
abbrev from_jobs : Text → Spelling
from_jobs word = option_or Jobs (codes "--jobs") word (flag_or_positional word)

abbrev from_number : Text → Spelling
from_number word = option_or Number (codes "--gen") word (from_jobs word)

pub returns-in-Some : goal.returns-in-Some
returns-in-Some c = sym (c.in-Some.ensures (from_number c.args.word.now))

pub returns-in-Some-spell_option : goal.returns-in-Some-spell_option
returns-in-Some-spell_option c =
    let word = c.args.word.now in
    sym (c.in-None.ensures (from_number word) ∙ c.in-Some-spell_option.ensures (from_jobs word))

pub returns-in-Some-spell_option-2 : goal.returns-in-Some-spell_option-2
returns-in-Some-spell_option-2 c =
    let word = c.args.word.now in
    sym (c.in-None.ensures (from_number word) ∙ c.in-None-spell_option.ensures (from_jobs word)
    ∙ c.in-Some-spell_option-2.ensures (flag_or_positional word))

pub returns-in-None-spell_option-2 : goal.returns-in-None-spell_option-2
returns-in-None-spell_option-2 c =
    let word = c.args.word.now in
    c.flag_or_positional.ensures
    ∙ sym (c.in-None.ensures (from_number word) ∙ c.in-None-spell_option.ensures (from_jobs word)
    ∙ c.in-None-spell_option-2.ensures (flag_or_positional word))
