-- Each phrase of a line of `schedule` is one by the table.
use Rattle.std.proofs.Common.{refl}
use Rattle.known_lines.specs.declared.schedules.TheConstants.{HEAD, HEAD_NOTES, AUTO_HEAD, AUTO_HEAD_NOTES, NAMED, NAMED_NOTES, NUMBERED, NUMBERED_NOTES, NEXT_NAMED, NEXT_NAMED_NOTES, NEXT_NUMBERED, NEXT_NUMBERED_NOTES, CLOSE, CLOSE_NOTES, END, END_NOTES, SIZES_END, SIZES_END_NOTES, AFTER, AFTER_NOTES, SIZES_AFTER, SIZES_AFTER_NOTES, NEXT_NAME, NEXT_NAME_NOTES, NAMES_END, NAMES_END_NOTES}
use Rattle.frame_grammar.specs.Bodies.{body_of}
use Rattle.grammar_table.specs.Table.{choices_of, default_of}
use Rattle.grammar_table.specs.Predict.{same_kind}
use Rattle.known_lines.specs.Lines.{IsPhrase, items_on}
use Rattle.known_lines.specs.Schedules.{arguments_on, more_arguments_on, sizes_on, names_on}

pub head_is : IsPhrase items_on arguments_on HEAD HEAD_NOTES
unfolding body_of choices_of default_of same_kind
head_is = record { derived = λ place ss. refl }

pub auto_head_is : IsPhrase items_on arguments_on AUTO_HEAD AUTO_HEAD_NOTES
unfolding body_of choices_of default_of same_kind
auto_head_is = record { derived = λ place ss. refl }

pub named_is : IsPhrase arguments_on more_arguments_on NAMED NAMED_NOTES
unfolding body_of choices_of default_of same_kind
named_is = record { derived = λ place ss. refl }

pub numbered_is : IsPhrase arguments_on more_arguments_on NUMBERED NUMBERED_NOTES
unfolding body_of choices_of default_of same_kind
numbered_is = record { derived = λ place ss. refl }

pub next_named_is : IsPhrase more_arguments_on more_arguments_on NEXT_NAMED NEXT_NAMED_NOTES
unfolding body_of choices_of default_of same_kind
next_named_is = record { derived = λ place ss. refl }

pub next_numbered_is : IsPhrase more_arguments_on more_arguments_on NEXT_NUMBERED NEXT_NUMBERED_NOTES
unfolding body_of choices_of default_of same_kind
next_numbered_is = record { derived = λ place ss. refl }

pub close_is : IsPhrase more_arguments_on sizes_on CLOSE CLOSE_NOTES
unfolding body_of choices_of default_of same_kind
close_is = record { derived = λ place ss. refl }

pub end_is : IsPhrase sizes_on items_on END END_NOTES
unfolding body_of choices_of default_of same_kind
end_is = record { derived = λ place ss. refl }

pub sizes_end_is : IsPhrase sizes_on items_on SIZES_END SIZES_END_NOTES
unfolding body_of choices_of default_of same_kind
sizes_end_is = record { derived = λ place ss. refl }

pub after_is : IsPhrase sizes_on names_on AFTER AFTER_NOTES
unfolding body_of choices_of default_of same_kind
after_is = record { derived = λ place ss. refl }

pub sizes_after_is : IsPhrase sizes_on names_on SIZES_AFTER SIZES_AFTER_NOTES
unfolding body_of choices_of default_of same_kind
sizes_after_is = record { derived = λ place ss. refl }

pub next_name_is : IsPhrase names_on names_on NEXT_NAME NEXT_NAME_NOTES
unfolding body_of choices_of default_of same_kind
next_name_is = record { derived = λ place ss. refl }

pub names_end_is : IsPhrase names_on items_on NAMES_END NAMES_END_NOTES
unfolding body_of choices_of default_of same_kind
names_end_is = record { derived = λ place ss. refl }
