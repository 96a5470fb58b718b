-- Each phrase of a line of `array` with values is one by the table.
use Rattle.std.proofs.Common.{refl}
use Rattle.known_lines.specs.declared.arrays.TheConstants.{HEAD, HEAD_NOTES, PLAIN, PLAIN_NOTES, NEGATIVE, NEGATIVE_NOTES, END, END_NOTES}
use Rattle.frame_grammar.specs.Bodies.{body_of}
use Rattle.grammar_table.specs.Table.{choices_of, default_of}
use Rattle.grammar_table.specs.Predict.{same_kind}
use Rattle.known_lines.specs.Lines.{IsPhrase, items_on}
use Rattle.known_lines.specs.Arrays.{values_on, more_values_on}

pub head_is : IsPhrase items_on values_on HEAD HEAD_NOTES
unfolding body_of choices_of default_of same_kind
head_is = record { derived = λ place ss. refl }

-- the first value

pub plain_is : IsPhrase values_on more_values_on PLAIN PLAIN_NOTES
unfolding body_of choices_of default_of same_kind
plain_is = record { derived = λ place ss. refl }

pub negative_is : IsPhrase values_on more_values_on NEGATIVE NEGATIVE_NOTES
unfolding body_of choices_of default_of same_kind
negative_is = record { derived = λ place ss. refl }

-- a value behind another

pub next_plain_is : IsPhrase more_values_on more_values_on PLAIN PLAIN_NOTES
unfolding body_of choices_of default_of same_kind
next_plain_is = record { derived = λ place ss. refl }

pub next_negative_is : IsPhrase more_values_on more_values_on NEGATIVE NEGATIVE_NOTES
unfolding body_of choices_of default_of same_kind
next_negative_is = record { derived = λ place ss. refl }

pub end_is : IsPhrase more_values_on items_on END END_NOTES
unfolding body_of choices_of default_of same_kind
end_is = record { derived = λ place ss. refl }
