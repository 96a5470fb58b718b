-- Each line that is known whole is one by the table.
use Rattle.std.proofs.Common.{refl}
use Rattle.known_lines.specs.declared.statements.TheConstants.{ARRAY, ARRAY_NOTES, LIST, LIST_NOTES, MAP, MAP_NOTES, REFERENCE, REFERENCE_NOTES, REFERENCE_VALUE, REFERENCE_VALUE_NOTES, STREAM, STREAM_NOTES, SLICE, SLICE_NOTES, VIEW, VIEW_NOTES, COPY, COPY_NOTES, SET_AT, SET_AT_NOTES, SET, SET_NOTES, ADD, ADD_NOTES, ADD_PAIR, ADD_PAIR_NOTES, PUT, PUT_NOTES, REMOVE, REMOVE_NOTES, CLEAR, CLEAR_NOTES, SET_CAPACITY, SET_CAPACITY_NOTES, COMPLETE, COMPLETE_NOTES, DISPOSE, DISPOSE_NOTES, PRINT, PRINT_NOTES, FLUSH, FLUSH_NOTES, FRAME, FRAME_NOTES, EMPTY, EMPTY_NOTES}
use Rattle.frame_grammar.specs.Bodies.{body_of}
use Rattle.grammar_table.specs.Table.{choices_of, default_of}
use Rattle.grammar_table.specs.Predict.{same_kind}
use Rattle.known_lines.specs.Lines.{IsLine}

pub array_is : IsLine ARRAY ARRAY_NOTES
unfolding body_of choices_of default_of same_kind
array_is = record { phrase = record { derived = λ place ss. refl }; fits = (refl, refl) }

pub list_is : IsLine LIST LIST_NOTES
unfolding body_of choices_of default_of same_kind
list_is = record { phrase = record { derived = λ place ss. refl }; fits = (refl, refl) }

pub map_is : IsLine MAP MAP_NOTES
unfolding body_of choices_of default_of same_kind
map_is = record { phrase = record { derived = λ place ss. refl }; fits = (refl, refl) }

pub reference_is : IsLine REFERENCE REFERENCE_NOTES
unfolding body_of choices_of default_of same_kind
reference_is = record { phrase = record { derived = λ place ss. refl }; fits = (refl, refl) }

pub reference_value_is : IsLine REFERENCE_VALUE REFERENCE_VALUE_NOTES
unfolding body_of choices_of default_of same_kind
reference_value_is = record { phrase = record { derived = λ place ss. refl }; fits = (refl, refl) }

pub stream_is : IsLine STREAM STREAM_NOTES
unfolding body_of choices_of default_of same_kind
stream_is = record { phrase = record { derived = λ place ss. refl }; fits = (refl, refl) }

pub slice_is : IsLine SLICE SLICE_NOTES
unfolding body_of choices_of default_of same_kind
slice_is = record { phrase = record { derived = λ place ss. refl }; fits = (refl, refl) }

pub view_is : IsLine VIEW VIEW_NOTES
unfolding body_of choices_of default_of same_kind
view_is = record { phrase = record { derived = λ place ss. refl }; fits = (refl, refl) }

pub copy_is : IsLine COPY COPY_NOTES
unfolding body_of choices_of default_of same_kind
copy_is = record { phrase = record { derived = λ place ss. refl }; fits = (refl, refl) }

pub set_at_is : IsLine SET_AT SET_AT_NOTES
unfolding body_of choices_of default_of same_kind
set_at_is = record { phrase = record { derived = λ place ss. refl }; fits = (refl, refl) }

pub set_is : IsLine SET SET_NOTES
unfolding body_of choices_of default_of same_kind
set_is = record { phrase = record { derived = λ place ss. refl }; fits = (refl, refl) }

pub add_is : IsLine ADD ADD_NOTES
unfolding body_of choices_of default_of same_kind
add_is = record { phrase = record { derived = λ place ss. refl }; fits = (refl, refl) }

pub add_pair_is : IsLine ADD_PAIR ADD_PAIR_NOTES
unfolding body_of choices_of default_of same_kind
add_pair_is = record { phrase = record { derived = λ place ss. refl }; fits = (refl, refl) }

pub put_is : IsLine PUT PUT_NOTES
unfolding body_of choices_of default_of same_kind
put_is = record { phrase = record { derived = λ place ss. refl }; fits = (refl, refl) }

pub remove_is : IsLine REMOVE REMOVE_NOTES
unfolding body_of choices_of default_of same_kind
remove_is = record { phrase = record { derived = λ place ss. refl }; fits = (refl, refl) }

pub clear_is : IsLine CLEAR CLEAR_NOTES
unfolding body_of choices_of default_of same_kind
clear_is = record { phrase = record { derived = λ place ss. refl }; fits = (refl, refl) }

pub set_capacity_is : IsLine SET_CAPACITY SET_CAPACITY_NOTES
unfolding body_of choices_of default_of same_kind
set_capacity_is = record { phrase = record { derived = λ place ss. refl }; fits = (refl, refl) }

pub complete_is : IsLine COMPLETE COMPLETE_NOTES
unfolding body_of choices_of default_of same_kind
complete_is = record { phrase = record { derived = λ place ss. refl }; fits = (refl, refl) }

pub dispose_is : IsLine DISPOSE DISPOSE_NOTES
unfolding body_of choices_of default_of same_kind
dispose_is = record { phrase = record { derived = λ place ss. refl }; fits = (refl, refl) }

pub print_is : IsLine PRINT PRINT_NOTES
unfolding body_of choices_of default_of same_kind
print_is = record { phrase = record { derived = λ place ss. refl }; fits = (refl, refl) }

pub flush_is : IsLine FLUSH FLUSH_NOTES
unfolding body_of choices_of default_of same_kind
flush_is = record { phrase = record { derived = λ place ss. refl }; fits = (refl, refl) }

pub frame_is : IsLine FRAME FRAME_NOTES
unfolding body_of choices_of default_of same_kind
frame_is = record { phrase = record { derived = λ place ss. refl }; fits = (refl, refl) }

pub empty_is : IsLine EMPTY EMPTY_NOTES
unfolding body_of choices_of default_of same_kind
empty_is = record { phrase = record { derived = λ place ss. refl }; fits = (refl, refl) }
