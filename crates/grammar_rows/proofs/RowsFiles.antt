-- Files: their kernels and statements, and the ends of lines between them.
use Rattle.std.proofs.Common.{List, [], ◌∷◌, ◌++◌, refl}
use Rattle.frame_grammar.specs.declared.symbols.Action.TheVariants.{OpenJob, OpenParallel, OpenBody, CloseKernel, StartStatement, FlushStatement, FrameStatement}
use Rattle.grammar_rows.proofs.Marks.{Mark, word, name, line, end, note, ReadsFile, file_reads, tables}

-- `job k() { }`
abbrev a_job : List Mark
a_job = note OpenJob ∷ word "job" ∷ name "k" ∷ word "(" ∷ word ")" ∷ word "{" ∷ note OpenBody ∷ note CloseKernel ∷ word "}" ∷ []

abbrev a_parallel : List Mark
a_parallel = note OpenParallel ∷ word "parallel" ∷ name "k" ∷ word "(" ∷ word ")" ∷ word "{" ∷ note OpenBody ∷ note CloseKernel ∷ word "}" ∷ []

abbrev a_flush : List Mark
a_flush = note StartStatement ∷ word "flush" ∷ note FlushStatement ∷ []

abbrev a_frame : List Mark
a_frame = note StartStatement ∷ word "frame" ∷ note FrameStatement ∷ []

nothing : ReadsFile (end ∷ [])
unfolding tables
nothing = file_reads refl

empty_lines : ReadsFile (line ∷ line ∷ end ∷ [])
unfolding tables
empty_lines = file_reads refl

two_statements : ReadsFile (a_flush ++ line ∷ a_frame ++ end ∷ [])
unfolding tables
two_statements = file_reads refl

kernels_and_statements : ReadsFile (a_job ++ line ∷ line ∷ a_flush ++ line ∷ a_parallel ++ line ∷ a_frame ++ line ∷ end ∷ [])
unfolding tables
kernels_and_statements = file_reads refl

two_kernels : ReadsFile (line ∷ a_parallel ++ line ∷ a_job ++ end ∷ [])
unfolding tables
two_kernels = file_reads refl
