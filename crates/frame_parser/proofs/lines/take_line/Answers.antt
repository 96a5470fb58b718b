use Rattle.known_lines.proofs.StatementLines.{list_is, map_is, reference_is, reference_value_is, stream_is, slice_is, view_is, copy_is, set_at_is, set_is, add_is, add_pair_is, put_is, remove_is, clear_is, set_capacity_is, complete_is, dispose_is, print_is, flush_is, frame_is, empty_is}
use Rattle.frame_parser.proofs.lines.take_line.Goals as goal

pub take_if_here-requires-clause-line : goal.take_if_here-requires-clause-line
take_if_here-requires-clause-line g c = list_is

pub take_if_here-requires-in-Map-clause-line : goal.take_if_here-requires-in-Map-clause-line
take_if_here-requires-in-Map-clause-line g c = map_is

pub take_if_here-requires-in-Stream-clause-line : goal.take_if_here-requires-in-Stream-clause-line
take_if_here-requires-in-Stream-clause-line g c = stream_is

pub take_if_here-requires-in-Slice-clause-line : goal.take_if_here-requires-in-Slice-clause-line
take_if_here-requires-in-Slice-clause-line g c = slice_is

pub take_if_here-requires-in-View-clause-line : goal.take_if_here-requires-in-View-clause-line
take_if_here-requires-in-View-clause-line g c = view_is

pub take_if_here-requires-in-Copy-clause-line : goal.take_if_here-requires-in-Copy-clause-line
take_if_here-requires-in-Copy-clause-line g c = copy_is

pub take_if_here-requires-in-Put-clause-line : goal.take_if_here-requires-in-Put-clause-line
take_if_here-requires-in-Put-clause-line g c = put_is

pub take_if_here-requires-in-Remove-clause-line : goal.take_if_here-requires-in-Remove-clause-line
take_if_here-requires-in-Remove-clause-line g c = remove_is

pub take_if_here-requires-in-Clear-clause-line : goal.take_if_here-requires-in-Clear-clause-line
take_if_here-requires-in-Clear-clause-line g c = clear_is

pub take_if_here-requires-in-SetCapacity-clause-line : goal.take_if_here-requires-in-SetCapacity-clause-line
take_if_here-requires-in-SetCapacity-clause-line g c = set_capacity_is

pub take_if_here-requires-in-Complete-clause-line : goal.take_if_here-requires-in-Complete-clause-line
take_if_here-requires-in-Complete-clause-line g c = complete_is

pub take_if_here-requires-in-Dispose-clause-line : goal.take_if_here-requires-in-Dispose-clause-line
take_if_here-requires-in-Dispose-clause-line g c = dispose_is

pub take_if_here-requires-in-Print-clause-line : goal.take_if_here-requires-in-Print-clause-line
take_if_here-requires-in-Print-clause-line g c = print_is

pub take_if_here-requires-in-Flush-clause-line : goal.take_if_here-requires-in-Flush-clause-line
take_if_here-requires-in-Flush-clause-line g c = flush_is

pub take_if_here-requires-in-Frame-clause-line : goal.take_if_here-requires-in-Frame-clause-line
take_if_here-requires-in-Frame-clause-line g c = frame_is

pub take_if_here-requires-in-Line-clause-line : goal.take_if_here-requires-in-Line-clause-line
take_if_here-requires-in-Line-clause-line g c = empty_is

pub take_either-requires-clause-longer : goal.take_either-requires-clause-longer
take_either-requires-clause-longer g c = reference_value_is

pub take_either-requires-clause-other : goal.take_either-requires-clause-other
take_either-requires-clause-other g c = reference_is

pub take_either-requires-in-Set-clause-longer : goal.take_either-requires-in-Set-clause-longer
take_either-requires-in-Set-clause-longer g c = set_at_is

pub take_either-requires-in-Set-clause-other : goal.take_either-requires-in-Set-clause-other
take_either-requires-in-Set-clause-other g c = set_is

pub take_either-requires-in-Add-clause-longer : goal.take_either-requires-in-Add-clause-longer
take_either-requires-in-Add-clause-longer g c = add_pair_is

pub take_either-requires-in-Add-clause-other : goal.take_either-requires-in-Add-clause-other
take_either-requires-in-Add-clause-other g c = add_is
