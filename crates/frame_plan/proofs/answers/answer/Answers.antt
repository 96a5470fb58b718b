use Rattle.std.proofs.Common.{◌≡◌, ap, sym, ◌∙◌, to_z, of_z, w64, arith}
use Rattle.std.proofs.lemmas.Int.{ints}
use Rattle.frame_ast.specs.declared.script.Order.TheVariants as order
use Rattle.plan_statements.specs.Tables.{columns_of}
use Rattle.plan_state.proofs.Binding.{if_ok}
use Rattle.frame_plan.proofs.Acting.{before_at, ready_at, ready_for, answers_in, answers_for, exceeding, of_memory, if_err}
use Rattle.frame_plan.proofs.answers.answer.Goals as goal

pub array-requires : goal.array-requires
array-requires c =
    record { ready = before_at c.in-Array.is c.requires.ready }

pub returns-in-Array-clause-answers : goal.returns-in-Array-clause-answers
returns-in-Array-clause-answers c =
    if_ok c.array.result (λ v h. answers_in c.in-Array.is v (h (columns_of c.args.table.now))) c.array.ensures.answers

pub returns-in-Array-clause-fails : goal.returns-in-Array-clause-fails
returns-in-Array-clause-fails c =
    if_err c.array.result (λ fault h. exceeding c.in-Array.is fault (h (columns_of c.args.table.now))) c.array.ensures.fails

pub column-requires : goal.column-requires
column-requires c =
    record { ready = ready_at c.in-Column.is c.requires.ready }

pub returns-in-Column-clause-answers : goal.returns-in-Column-clause-answers
returns-in-Column-clause-answers c =
    if_ok c.column.result (λ v h. answers_in c.in-Column.is v (h c.args.script.now)) c.column.ensures.answers

pub returns-in-Column-clause-fails : goal.returns-in-Column-clause-fails
returns-in-Column-clause-fails c =
    if_err c.column.result (λ fault h. exceeding c.in-Column.is fault (h c.args.script.now)) c.column.ensures.fails

pub list-requires : goal.list-requires
list-requires c =
    record { ready = ready_at c.in-List.is c.requires.ready }

pub returns-in-List-clause-answers : goal.returns-in-List-clause-answers
returns-in-List-clause-answers c =
    if_ok c.list.result (λ v h. answers_in c.in-List.is v (h c.args.script.now (columns_of c.args.table.now))) c.list.ensures.answers

pub returns-in-List-clause-fails : goal.returns-in-List-clause-fails
returns-in-List-clause-fails c =
    if_err c.list.result (λ fault h. exceeding c.in-List.is fault (h c.args.script.now (columns_of c.args.table.now))) c.list.ensures.fails

pub reference-requires : goal.reference-requires
reference-requires c =
    record { ready = ready_at c.in-Reference.is c.requires.ready }

pub returns-in-Reference-clause-answers : goal.returns-in-Reference-clause-answers
returns-in-Reference-clause-answers c =
    if_ok c.reference.result (λ v h. answers_in c.in-Reference.is v (h c.args.script.now (columns_of c.args.table.now))) c.reference.ensures.answers

pub returns-in-Reference-clause-fails : goal.returns-in-Reference-clause-fails
returns-in-Reference-clause-fails c =
    if_err c.reference.result (λ fault h. exceeding c.in-Reference.is fault (h c.args.script.now (columns_of c.args.table.now))) c.reference.ensures.fails

pub map-requires : goal.map-requires
map-requires c =
    record { ready = ready_at c.in-Map.is c.requires.ready }

pub returns-in-Map-clause-answers : goal.returns-in-Map-clause-answers
returns-in-Map-clause-answers c =
    if_ok c.map.result (λ v h. answers_in c.in-Map.is v (h c.args.script.now (columns_of c.args.table.now))) c.map.ensures.answers

pub returns-in-Map-clause-fails : goal.returns-in-Map-clause-fails
returns-in-Map-clause-fails c =
    if_err c.map.result (λ fault h. exceeding c.in-Map.is fault (h c.args.script.now (columns_of c.args.table.now))) c.map.ensures.fails

pub stream-requires : goal.stream-requires
stream-requires c =
    record { ready = ready_at c.in-Stream.is c.requires.ready }

pub returns-in-Stream-clause-answers : goal.returns-in-Stream-clause-answers
returns-in-Stream-clause-answers c =
    if_ok c.stream.result (λ v h. answers_in c.in-Stream.is v (h c.args.script.now (columns_of c.args.table.now))) c.stream.ensures.answers

pub returns-in-Stream-clause-fails : goal.returns-in-Stream-clause-fails
returns-in-Stream-clause-fails c =
    if_err c.stream.result (λ fault h. exceeding c.in-Stream.is fault (h c.args.script.now (columns_of c.args.table.now))) c.stream.ensures.fails

pub slice-requires : goal.slice-requires
slice-requires c =
    record { ready = ready_for c.in-Slice.is c.requires.ready }

pub returns-in-Slice-clause-answers : goal.returns-in-Slice-clause-answers
returns-in-Slice-clause-answers c =
    answers_for c.in-Slice.is _ c.slice.ensures.answers

pub view-requires : goal.view-requires
view-requires c =
    record { ready = ready_for c.in-View.is c.requires.ready }

pub returns-in-View-clause-answers : goal.returns-in-View-clause-answers
returns-in-View-clause-answers c =
    answers_for c.in-View.is _ c.view.ensures.answers

pub copy-requires : goal.copy-requires
copy-requires c =
    record { ready = ready_for c.in-Copy.is c.requires.ready }

pub returns-in-Copy-clause-answers : goal.returns-in-Copy-clause-answers
returns-in-Copy-clause-answers c =
    answers_for c.in-Copy.is _ c.copy.ensures.answers

pub clear-requires : goal.clear-requires
clear-requires c =
    record { ready = ready_for c.in-Clear.is c.requires.ready }

pub returns-in-Clear-clause-answers : goal.returns-in-Clear-clause-answers
returns-in-Clear-clause-answers c =
    answers_for c.in-Clear.is _ c.clear.ensures.answers

pub print-requires : goal.print-requires
print-requires c =
    record { ready = ready_for c.in-Print.is c.requires.ready }

pub returns-in-Print-clause-answers : goal.returns-in-Print-clause-answers
returns-in-Print-clause-answers c =
    answers_for c.in-Print.is _ c.print.ensures.answers

pub returns-in-Flush-clause-answers : goal.returns-in-Flush-clause-answers
returns-in-Flush-clause-answers c =
    answers_for c.in-Flush.is _ c.flush.ensures.answers

pub set-requires : goal.set-requires
set-requires c =
    let value : to_z w64 (of_z w64 c.in-Set.value) ≡ c.in-Set.value = omega (arith, ints) in
    record {
      ready = ready_for (c.in-Set.is ∙ (λ i. order.Set c.in-Set.name c.in-Set.at (sym value i))) c.requires.ready;
    }

pub returns-in-Set-clause-answers : goal.returns-in-Set-clause-answers
returns-in-Set-clause-answers c =
    let value : to_z w64 (of_z w64 c.in-Set.value) ≡ c.in-Set.value = omega (arith, ints) in
    answers_for (c.in-Set.is ∙ (λ i. order.Set c.in-Set.name c.in-Set.at (sym value i))) _ c.set.ensures.answers

pub add-requires : goal.add-requires
add-requires c =
    let first : to_z w64 (of_z w64 c.in-Add.first) ≡ c.in-Add.first = omega (arith, ints) in
    record {
      ready = ready_for (c.in-Add.is ∙ (λ i. order.Add c.in-Add.name (sym first i) c.in-Add.second)) c.requires.ready;
    }

pub returns-in-Add-clause-answers : goal.returns-in-Add-clause-answers
returns-in-Add-clause-answers c =
    let first : to_z w64 (of_z w64 c.in-Add.first) ≡ c.in-Add.first = omega (arith, ints) in
    answers_for (c.in-Add.is ∙ (λ i. order.Add c.in-Add.name (sym first i) c.in-Add.second)) _ c.add.ensures.answers

pub put-requires : goal.put-requires
put-requires c =
    let key : to_z w64 (of_z w64 c.in-Put.key) ≡ c.in-Put.key = omega (arith, ints) in
    let value : to_z w64 (of_z w64 c.in-Put.value) ≡ c.in-Put.value = omega (arith, ints) in
    record {
      ready = ready_for (c.in-Put.is ∙ (λ i. order.Put c.in-Put.name (sym key i) (sym value i))) c.requires.ready;
    }

pub returns-in-Put-clause-answers : goal.returns-in-Put-clause-answers
returns-in-Put-clause-answers c =
    let key : to_z w64 (of_z w64 c.in-Put.key) ≡ c.in-Put.key = omega (arith, ints) in
    let value : to_z w64 (of_z w64 c.in-Put.value) ≡ c.in-Put.value = omega (arith, ints) in
    answers_for (c.in-Put.is ∙ (λ i. order.Put c.in-Put.name (sym key i) (sym value i))) _ c.put.ensures.answers

pub remove-requires : goal.remove-requires
remove-requires c =
    let at : to_z w64 (of_z w64 c.in-Remove.at) ≡ c.in-Remove.at = omega (arith, ints) in
    record {
      ready = ready_for (c.in-Remove.is ∙ (λ i. order.Remove c.in-Remove.name (sym at i))) c.requires.ready;
    }

pub returns-in-Remove-clause-answers : goal.returns-in-Remove-clause-answers
returns-in-Remove-clause-answers c =
    let at : to_z w64 (of_z w64 c.in-Remove.at) ≡ c.in-Remove.at = omega (arith, ints) in
    answers_for (c.in-Remove.is ∙ (λ i. order.Remove c.in-Remove.name (sym at i))) _ c.remove.ensures.answers

pub set_capacity-requires : goal.set_capacity-requires
set_capacity-requires c =
    record { ready = ready_for c.in-SetCapacity.is c.requires.ready }

pub returns-in-SetCapacity-clause-answers : goal.returns-in-SetCapacity-clause-answers
returns-in-SetCapacity-clause-answers c =
    if_ok c.set_capacity.result (λ v h. answers_for c.in-SetCapacity.is v h) c.set_capacity.ensures.answers

pub returns-in-SetCapacity-clause-fails : goal.returns-in-SetCapacity-clause-fails
returns-in-SetCapacity-clause-fails c =
    if_err c.set_capacity.result (λ fault h. exceeding c.in-SetCapacity.is fault
    (h c.args.statement.now.line c.args.script.now (columns_of c.args.table.now))) c.set_capacity.ensures.fails

pub combine-requires : goal.combine-requires
combine-requires c =
    record { ready = ready_for c.in-Combine.is c.requires.ready }

pub returns-in-Combine-clause-answers : goal.returns-in-Combine-clause-answers
returns-in-Combine-clause-answers c =
    if_ok c.combine.result (λ v h. answers_for c.in-Combine.is v h) c.combine.ensures.answers

pub returns-in-Combine-clause-fails : goal.returns-in-Combine-clause-fails
returns-in-Combine-clause-fails c =
    if_err c.combine.result (λ fault h. of_memory h) c.combine.ensures.memory

pub complete-requires : goal.complete-requires
complete-requires c =
    record { ready = ready_for c.in-Complete.is c.requires.ready }

pub returns-in-Complete-clause-answers : goal.returns-in-Complete-clause-answers
returns-in-Complete-clause-answers c =
    if_ok c.complete.result (λ v h. answers_for c.in-Complete.is v h) c.complete.ensures.answers

pub returns-in-Complete-clause-fails : goal.returns-in-Complete-clause-fails
returns-in-Complete-clause-fails c =
    if_err c.complete.result (λ fault h. of_memory h) c.complete.ensures.memory

pub complete_auto-requires : goal.complete_auto-requires
complete_auto-requires c =
    record { ready = ready_for c.in-CompleteAuto.is c.requires.ready }

pub returns-in-CompleteAuto-clause-answers : goal.returns-in-CompleteAuto-clause-answers
returns-in-CompleteAuto-clause-answers c =
    if_ok c.complete_auto.result (λ v h. answers_for c.in-CompleteAuto.is v h) c.complete_auto.ensures.answers

pub returns-in-CompleteAuto-clause-fails : goal.returns-in-CompleteAuto-clause-fails
returns-in-CompleteAuto-clause-fails c =
    if_err c.complete_auto.result (λ fault h. of_memory h) c.complete_auto.ensures.memory

pub dispose_auto-requires : goal.dispose_auto-requires
dispose_auto-requires c =
    record { ready = ready_for c.in-DisposeAuto.is c.requires.ready }

pub returns-in-DisposeAuto-clause-answers : goal.returns-in-DisposeAuto-clause-answers
returns-in-DisposeAuto-clause-answers c =
    if_ok c.dispose_auto.result (λ v h. answers_for c.in-DisposeAuto.is v h) c.dispose_auto.ensures.answers

pub returns-in-DisposeAuto-clause-fails : goal.returns-in-DisposeAuto-clause-fails
returns-in-DisposeAuto-clause-fails c =
    if_err c.dispose_auto.result (λ fault h. of_memory h) c.dispose_auto.ensures.memory

pub dispose-requires : goal.dispose-requires
dispose-requires c =
    record {
      ready = (
        c.in-Dispose.after,
        ready_for (c.in-Dispose.is ∙ ap (λ h. order.Dispose c.in-Dispose.name c.in-Dispose.after h) c.in-None.is) c.requires.ready,
      );
    }

pub returns-in-None-clause-answers : goal.returns-in-None-clause-answers
returns-in-None-clause-answers c =
    answers_for (c.in-Dispose.is ∙ ap (λ h. order.Dispose c.in-Dispose.name c.in-Dispose.after h) c.in-None.is) _ (c.dispose.ensures.answers c.in-Dispose.after)

pub dispose_after-requires : goal.dispose_after-requires
dispose_after-requires c =
    record {
      ready = ready_for (c.in-Dispose.is ∙ ap (λ h. order.Dispose c.in-Dispose.name c.in-Dispose.after h) c.in-Some.is) c.requires.ready;
    }

pub returns-in-Some-clause-answers : goal.returns-in-Some-clause-answers
returns-in-Some-clause-answers c =
    let is = c.in-Dispose.is ∙ ap (λ h. order.Dispose c.in-Dispose.name c.in-Dispose.after h) c.in-Some.is in
    if_ok c.dispose_after.result (λ v h. answers_for is v h) c.dispose_after.ensures.answers

pub returns-in-Some-clause-fails : goal.returns-in-Some-clause-fails
returns-in-Some-clause-fails c =
    if_err c.dispose_after.result (λ fault h. of_memory h) c.dispose_after.ensures.memory

pub frame-requires : goal.frame-requires
frame-requires c =
    record { ready = ready_at c.in-Frame.is c.requires.ready }

pub returns-in-Frame-clause-answers : goal.returns-in-Frame-clause-answers
returns-in-Frame-clause-answers c =
    if_ok c.frame.result (λ v h. answers_in c.in-Frame.is v (h c.args.script.now (columns_of c.args.table.now))) c.frame.ensures.answers

pub returns-in-Frame-clause-fails : goal.returns-in-Frame-clause-fails
returns-in-Frame-clause-fails c =
    if_err c.frame.result (λ fault h. of_memory h) c.frame.ensures.memory
