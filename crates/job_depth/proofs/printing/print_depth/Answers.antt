use Rattle.std.proofs.Common.{ap, append_assoc, ◌++◌, ◌∙◌}
use Rattle.std.specs.Prelude.{codes}
use Rattle.frame_print.proofs.Gathering.{writes_stops, writes_whole, first_stops, second_stops, third_stops, third_joins}
use Rattle.job_depth.specs.Texts.{numbers_text, jobs_text}
use Rattle.job_depth.proofs.printing.print_depth.Goals as goal

pub returns-in_err-put_numbers-clause-text : goal.returns-in_err-put_numbers-clause-text
returns-in_err-put_numbers-clause-text g c =
    writes_stops _ _ c.from_residual.result _ c.from_residual.ensures.0
    (first_stops _ _ _ _ _ _ (append_assoc (numbers_text c.args.depth.now) (jobs_text c.args.depth.now.chain.items) (codes "\n")) _
    c.in_err-put_numbers.ensures.text)

pub returns-in_err-put_jobs-clause-text : goal.returns-in_err-put_jobs-clause-text
returns-in_err-put_jobs-clause-text g c =
    let whole = ap (λ xs. (numbers_text c.args.depth.now ++ jobs_text xs) ++ codes "\n") c.deref.ensures.value
    ∙ append_assoc (numbers_text c.args.depth.now) (jobs_text c.args.depth.now.chain.items) (codes "\n") in
    writes_stops _ _ c.from_residual-in_err-put_jobs.result _ c.from_residual-in_err-put_jobs.ensures.0
    (second_stops _ _ _ _ _ _ whole _ _ c.in_ok-put_numbers.ensures.text _ c.in_err-put_jobs.ensures.text)

pub returns-in_err-put-clause-text : goal.returns-in_err-put-clause-text
returns-in_err-put-clause-text g c =
    let whole = ap (λ xs. (numbers_text c.args.depth.now ++ jobs_text xs) ++ codes "\n") c.deref.ensures.value
    ∙ append_assoc (numbers_text c.args.depth.now) (jobs_text c.args.depth.now.chain.items) (codes "\n") in
    writes_stops _ _ c.from_residual-in_err-put.result _ c.from_residual-in_err-put.ensures.0
    (third_stops _ _ _ _ _ _ whole _ _ c.in_ok-put_numbers.ensures.text _ _ _ c.in_ok-put_jobs.ensures.text c.in_err-put.ensures.text)

pub returns-clause-text : goal.returns-clause-text
returns-clause-text g c =
    let whole = ap (λ xs. (numbers_text c.args.depth.now ++ jobs_text xs) ++ codes "\n") c.deref.ensures.value
    ∙ append_assoc (numbers_text c.args.depth.now) (jobs_text c.args.depth.now.chain.items) (codes "\n") in
    writes_whole _ _ _ _ _ c.flush.result _
    (third_joins _ _ _ _ _ _ whole _ _ c.in_ok-put_numbers.ensures.text _ _ _ _ c.in_ok-put_jobs.ensures.text c.in_ok-put.ensures.text)
    c.flush.ensures.text
