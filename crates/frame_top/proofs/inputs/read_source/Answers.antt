use Rattle.std.proofs.Common.{ℕ, ◌<◌, List, length, IfSome, subst}
use Rattle.frame_top.specs.Asking.{IsAsked}
use Rattle.frame_top.proofs.Asked.{seed_bounded, jobs_bounded, file_read, file_long, read_ok}
use Rattle.frame_top.proofs.inputs.read_source.Goals as goal

pub make_source-requires-clause-number : goal.make_source-requires-clause-number
make_source-requires-clause-number g c = seed_bounded _ _ _ _ _ (subst (IsAsked c.requires.asked.0) c.in-Gen.is c.requires.asked.1)

pub make_source-requires-clause-jobs : goal.make_source-requires-clause-jobs
make_source-requires-clause-jobs g c = jobs_bounded _ _ _ _ _ (subst (IsAsked c.requires.asked.0) c.in-Gen.is c.requires.asked.1)

pub returns-in-Run-clause-source : goal.returns-in-Run-clause-source
returns-in-Run-clause-source g c words asked =
    read_ok c.read.result _ _ (λ v e. file_read _ _ _ _ _ _ _ _ (subst (IsAsked words) c.in-Run.is asked) c.deref.ensures e) c.read.ensures.bytes

pub returns-in-Run-clause-too_long : goal.returns-in-Run-clause-too_long
returns-in-Run-clause-too_long g c e words asked =
    file_long _ _ _ _ _ _ _ _ (subst (IsAsked words) c.in-Run.is asked) c.deref.ensures
    (subst (λ (most : ℕ). IfSome (g.F.Files.bytes c.args.files.now c.deref.result.now) (λ (b : List ℕ). most < length b)) c.from.ensures
    (c.read.ensures.too_long e))
