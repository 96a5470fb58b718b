-- What worked plans print, which traps they meet, and their cells at the end.
use Rattle.std.proofs.Common.{◌≡◌, refl, codes, pos, [], ◌∷◌, map}
use Rattle.std.specs.Fmt.{digits}
use Rattle.frame_ast.specs.Kernels.{fresh}
use Rattle.frame_ast.specs.JobRuns.{full_steps}
use Rattle.frame_core.specs.Pieces.{script_order, place_of}
use Rattle.frame_core.specs.Operations.{op_cells, op_answer}
use Rattle.frame_core.specs.Reading.{contents_in}
use Rattle.frame_core.specs.Effects.{part_run, piece_cells}
use Rattle.frame_core.specs.Graphs.{graph_of, before_piece, cells_after, cells_at_first}
use Rattle.frame_core.specs.Output.{op_line, plan_lines, plan_traps, plan_output}
use Rattle.ast_rows.proofs.Trees.{Place}
use Rattle.ast_rows.proofs.Kernels.{scale, total, bump, peek, slow, quick}
use Rattle.plan_rows.proofs.Runs.{computed, run_at}
use Rattle.plan_rows.proofs.Plans.{array, ref, chained, reused, carried, past_the_end, two_traps}

module _ (at : Place) where
  -- THE CHAIN

  chained_0 : part_run (chained at) 0 0 ≡ (λ cells. computed at scale (array 0 4 0 ∷ array 4 4 1 ∷ []) 2 0 cells)
  unfolding part_run
  chained_0 = run_at at scale (array 0 4 0 ∷ array 4 4 1 ∷ []) 2 0

  chained_1 : part_run (chained at) 0 1 ≡ (λ cells. computed at scale (array 0 4 0 ∷ array 4 4 1 ∷ []) 2 2 cells)
  unfolding part_run
  chained_1 = run_at at scale (array 0 4 0 ∷ array 4 4 1 ∷ []) 2 2

  chained_2 : part_run (chained at) 1 0 ≡ (λ cells. computed at total (array 4 4 0 ∷ ref 8 ∷ []) 1 0 cells)
  unfolding part_run
  chained_2 = run_at at total (array 4 4 0 ∷ ref 8 ∷ []) 1 0

  lines_chained : plan_lines (chained at) ≡ codes "t = 30\n"
  unfolding plan_lines op_line op_answer op_cells contents_in before_piece graph_of script_order place_of piece_cells digits fresh full_steps
  lines_chained = rw (chained_0, chained_1, chained_2) refl

  cells_chained : map (cells_after (chained at)) (4 ∷ 5 ∷ 6 ∷ 7 ∷ 8 ∷ 9 ∷ 17 ∷ []) ≡ pos 3 ∷ pos 6 ∷ pos 9 ∷ pos 12 ∷ pos 30 ∷ pos 0 ∷ pos 0 ∷ []
  unfolding cells_after op_cells graph_of script_order piece_cells fresh full_steps
  cells_chained = rw (chained_0, chained_1, chained_2) refl

  -- WORDS USED AGAIN

  reused_0 : part_run (reused at) 0 0 ≡ (λ cells. computed at peek (array 0 2 0 ∷ ref 2 ∷ []) 1 0 cells)
  unfolding part_run
  reused_0 = run_at at peek (array 0 2 0 ∷ ref 2 ∷ []) 1 0

  lines_reused : plan_lines (reused at) ≡ codes "t = 1\nb = [8, 9]\n"
  unfolding plan_lines op_line op_answer op_cells contents_in before_piece graph_of script_order place_of piece_cells digits fresh full_steps
  lines_reused = rw reused_0 refl

  -- CELLS THAT IT BEGINS WITH

  first_carried : map (cells_at_first (carried at)) (0 ∷ 1 ∷ 2 ∷ 3 ∷ 4 ∷ []) ≡ pos 4 ∷ pos 6 ∷ pos 0 ∷ pos 0 ∷ pos 0 ∷ []
  first_carried = refl

  carried_0 : part_run (carried at) 0 0 ≡ (λ cells. computed at bump (array 0 2 0 ∷ []) 1 0 cells)
  unfolding part_run
  carried_0 = run_at at bump (array 0 2 0 ∷ []) 1 0

  lines_carried : plan_lines (carried at) ≡ codes "a = [5, 6]\n"
  unfolding plan_lines op_line op_answer op_cells contents_in before_piece graph_of script_order place_of piece_cells digits fresh full_steps
  lines_carried = rw carried_0 refl

  cells_carried : map (cells_after (carried at)) (0 ∷ 1 ∷ 2 ∷ 3 ∷ []) ≡ pos 5 ∷ pos 6 ∷ pos 0 ∷ pos 0 ∷ []
  unfolding cells_after op_cells graph_of script_order piece_cells fresh full_steps
  cells_carried = rw carried_0 refl

  -- TRAPS

  past_0 : part_run (past_the_end at) 0 0 ≡ (λ cells. computed at scale (array 0 5 0 ∷ array 5 4 1 ∷ []) 2 0 cells)
  unfolding part_run
  past_0 = run_at at scale (array 0 5 0 ∷ array 5 4 1 ∷ []) 2 0

  past_1 : part_run (past_the_end at) 0 1 ≡ (λ cells. computed at scale (array 0 5 0 ∷ array 5 4 1 ∷ []) 2 2 cells)
  unfolding part_run
  past_1 = run_at at scale (array 0 5 0 ∷ array 5 4 1 ∷ []) 2 2

  past_2 : part_run (past_the_end at) 0 2 ≡ (λ cells. computed at scale (array 0 5 0 ∷ array 5 4 1 ∷ []) 1 4 cells)
  unfolding part_run
  past_2 = run_at at scale (array 0 5 0 ∷ array 5 4 1 ∷ []) 1 4

  lines_past : plan_lines (past_the_end at) ≡ codes "y = [3, 6, 9, 12]\n"
  unfolding plan_lines op_line op_answer op_cells contents_in before_piece graph_of script_order place_of piece_cells digits fresh full_steps
  lines_past = rw (past_0, past_1, past_2) refl

  -- the own word of the last piece: one trap, at index 4, and it is Range, 3 * 2 ^ 48 + 4 * 2 ^ 24 + 1
  notes_past : map (cells_after (past_the_end at)) (9 ∷ 10 ∷ 11 ∷ []) ≡ pos 0 ∷ pos 0 ∷ pos 844424997240833 ∷ []
  unfolding cells_after op_cells graph_of script_order piece_cells fresh full_steps
  notes_past = rw (past_0, past_1, past_2) refl

  traps_0 : part_run (two_traps at) 0 0 ≡ (λ cells. computed at slow (array 0 1 0 ∷ []) 1 0 cells)
  unfolding part_run
  traps_0 = run_at at slow (array 0 1 0 ∷ []) 1 0

  traps_1 : part_run (two_traps at) 1 0 ≡ (λ cells. computed at quick (array 1 1 0 ∷ []) 1 0 cells)
  unfolding part_run
  traps_1 = run_at at quick (array 1 1 0 ∷ []) 1 0

  output_traps : plan_output (two_traps at) ≡ codes "trap job 1 index 0: zero-divisor\ntraps 2\n"
  unfolding plan_lines plan_traps op_line op_answer op_cells contents_in before_piece graph_of script_order place_of piece_cells digits fresh full_steps
  output_traps = rw (traps_0, traps_1) refl
