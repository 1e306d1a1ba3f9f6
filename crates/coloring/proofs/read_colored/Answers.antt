use Rattle.std.proofs.Common.{rules, ◌≤◌, length, sym}
use Rattle.std.proofs.lemmas.List.{length-take-le}
use Rattle.coloring.proofs.Answer.{few_objects}
use Rattle.coloring.proofs.read_colored.Goals as goal

-- the labels are as many as a list of objects is long
pub slice_bounds-count_classes-end : goal.slice_bounds-count_classes-end
slice_bounds-count_classes-end c =
    let few : c.in-Ok.routine.objects.count ≤ 400 = search (rules, few_objects) in
    let inside : c.in-Ok.routine.objects.count ≤ length c.labels_of-labels.result = search rules in
    sym (length-take-le _ _ inside)
