use Rattle.std.proofs.Common.{rules, ◌≡◌, ◌<◌, ◌^◌, take, sym, arith}
use Rattle.std.proofs.lemmas.List.{length-take-le}
use Rattle.shelf.specs.Decoding.{string_count, name_sizes, text_sizes}
use Rattle.shelf.specs.Places.{first_string}
use Rattle.shelf.proofs.Meant.{before}
use Rattle.shelf.proofs.shelf.Shelf.place.Goals as goal

pub sum-string-requires-clause-fits : goal.sum-string-requires-clause-fits
sum-string-requires-clause-fits c =
    let b = before c.args.self.now c.args.program in
    let h : string_count (take c.args.program c.deref.result.now) < 2 ^ 64 = rw c.deref.ensures.value (omega arith) in
    search rules

pub sum-names-requires-clause-fits : goal.sum-names-requires-clause-fits
sum-names-requires-clause-fits c =
    let b = before c.args.self.now c.args.program in
    let h : name_sizes (take c.args.program c.deref.result.now) < 2 ^ 64 = rw c.deref.ensures.value (omega arith) in
    search rules

pub slice_bounds-text_size-end : goal.slice_bounds-text_size-end
slice_bounds-text_size-end c =
    let b = before c.args.self.now c.args.program in
    let string : c.sum-string.result ≡ first_string c.args.program c.args.self.now.programs.items = search rules in
    sym (length-take-le c.sum-string.result c.deref-2.result.now (omega arith))

pub overflow_add-result : goal.overflow_add-result
overflow_add-result c =
    let b = before c.args.self.now c.args.program in
    let string : c.sum-string.result ≡ first_string c.args.program c.args.self.now.programs.items = search rules in
    let names : c.sum-names.result ≡ name_sizes (take c.args.program c.args.self.now.programs.items) = search rules in
    let texts : c.text_size.result ≡ text_sizes (take (first_string c.args.program c.args.self.now.programs.items) c.args.self.now.strings.items) = cc in
    omega arith
