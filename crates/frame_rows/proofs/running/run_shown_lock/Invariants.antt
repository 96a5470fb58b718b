use Rattle.frame_rows.proofs.running.run_shown_lock.Given as goal

abbrev pub ghosts-run_named_lock-K-PlanName : goal.ghosts-run_named_lock-K-PlanName
ghosts-run_named_lock-K-PlanName g a = record { plan = g.P.ShowsPlan.shown a.plan.now }

abbrev pub ghosts-run_named_lock-K-BoardName : goal.ghosts-run_named_lock-K-BoardName
ghosts-run_named_lock-K-BoardName g a = record { board = a.token.name }
