use Rattle.std.proofs.Common.{◌≡◌, ◌<◌, Some, None, Err, true, false, length, slice_get, position, bytes_eq, string_bytes, inl, inr, sym, ◌∙◌, arith}
use Rattle.std.proofs.lemmas.Grind.{common_steps}
use Rattle.job_base.specs.FilesInMemory.{is_failing, answer_on, answer_of}
use Rattle.job_base.specs.declared.files.FileFault.TheVariants.{Failed}
use Rattle.job_base.proofs.FirstPlace.{answer_failing, answer_missing, answer_found, position-map, slice_get-map-is}
use Rattle.job_base.proofs.files.MemFilesFiles.read.Goals as goal

pub returns-then-contains-clause-err : goal.returns-then-contains-clause-err
returns-then-contains-clause-err c =
    let files = c.args.self.now in
    let e : is_failing files ≡ true = grind (arith, common_steps, c.if-contains.ensures.value) in
    let a : answer_of files c.args.name.now c.args.limit ≡ Err Failed = answer_failing files c.args.name.now c.args.limit e in
    elim c.fail.ensures.other [ inl p ↦ inr (rw p a) | inr p ↦ inl p.0 ]

pub returns-in_default-clause-err : goal.returns-in_default-clause-err
returns-in_default-clause-err c =
    let files = c.args.self.now in
    let p : position (λ n. bytes_eq (string_bytes n) c.args.name.now) c.self.inside.names.items ≡ None =
    rw (← c.deref-2.ensures.value) (sym c.in_default.ensures) in
    let e : position (λ n. bytes_eq n c.args.name.now) files.names ≡ None =
    rw (← c.self.view_is) (position-map (λ n. string_bytes n) (λ n. bytes_eq n c.args.name.now) c.self.inside.names.items ∙ p) in
    let a : answer_of files c.args.name.now c.args.limit ≡ Err Failed = answer_missing files c.args.name.now c.args.limit e in
    elim c.fail-in_default.ensures.other [ inl p ↦ inr (rw p a) | inr p ↦ inl p.0 ]

found : (c : goal.After-copy_of) → answer_of c.args.self.now c.args.name.now c.args.limit ≡ answer_on (Some c.deref-3.result.now) c.args.limit
found c =
    let files = c.args.self.now in
    let f : is_failing files ≡ false = grind (arith, common_steps, c.if-contains.ensures.value) in
    let p : position (λ n. bytes_eq (string_bytes n) c.args.name.now) c.self.inside.names.items ≡ Some c.in-Some.place =
    rw (← c.deref-2.ensures.value) (sym c.in-Some.ensures) in
    let e : position (λ n. bytes_eq n c.args.name.now) files.names ≡ Some c.in-Some.place =
    rw (← c.self.view_is) (position-map (λ n. string_bytes n) (λ n. bytes_eq n c.args.name.now) c.self.inside.names.items ∙ p) in
    let within : c.in-Some.place < length c.self.inside.contents.items = grind (arith, common_steps, p, c.self.invariant) in
    let d : slice_get files.contents c.in-Some.place ≡ Some c.deref-3.result.now =
    rw (← c.self.view_is, c.deref-3.ensures.value) (slice_get-map-is (λ v. v.items) c.self.inside.contents.items c.in-Some.place c.index.result.now within
    c.index.ensures) in
    answer_found files c.args.name.now c.args.limit c.in-Some.place c.deref-3.result.now f e d

pub returns-clause-ok : goal.returns-clause-ok
returns-clause-ok c = rw (found c) c.copy_of.ensures.ok

pub returns-clause-err : goal.returns-clause-err
returns-clause-err c = rw (found c) c.copy_of.ensures.err
