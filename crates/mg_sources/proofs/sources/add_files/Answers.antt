use Rattle.std.proofs.Common.{◌≡◌, List, [], ◌∷◌, ◌++◌, map, length, sym, ap, ◌∙◌, arith, append_assoc}
use Rattle.std.proofs.lemmas.List.{map-append, append-nil}
use Rattle.std.specs.Vec.Iter.{into_iter_items}
use Rattle.jv_tree.specs.View.{file_of}
use Rattle.jv_tree.specs.Source.{File}
use Rattle.stm_api.specs.View.{written_of}
use Rattle.stm_api.specs.declared.files.ApiFile.{ApiFile}
use Rattle.mg_sources.proofs.Together.{nothing_left}
use Rattle.mg_sources.proofs.sources.add_files.Goals as goal

abbrev trees : List ApiFile → List File
trees api = map (λ f. f.tree) (map written_of api)

pub loop-file-init : goal.loop-file-init
loop-file-init c =
    let began = c.into_iter-file-iterator.ensures.into_iter_gives in
    record {
      count = let same = ap length began.0 in omega (arith, began.1, c.into_vec-file-items.result.ok.0, same);
      moved = ap (λ (z : List ApiFile). map file_of c.args.files.now.items ++ trees z) (began.0 ∙ c.into_vec-file-items.ensures);
    }

pub loop-file-preserved : goal.loop-file-preserved
loop-file-preserved c =
    let step = c.in-Some.ensures.steps in
    let was = c.loop-file.invariant in
    let some = ap length step.0 in
    let pushed : map file_of c.push.new.self.items ≡ map file_of c.loop-file.files.items ++ file_of c.in-Some.file.tree ∷ [] =
    ap (map file_of) c.in_ok-push.ensures.ok ∙ map-append file_of c.loop-file.files.items (c.in-Some.file.tree ∷ []) in
    record {
      count = let count = was.count in omega (arith, count, some, step.1);
      moved =
          ap (λ (z : List File). z ++ trees (into_iter_items c.next.new.self)) pushed
          ∙ append_assoc (map file_of c.loop-file.files.items) (file_of c.in-Some.file.tree ∷ []) (trees (into_iter_items c.next.new.self))
          ∙ ap (λ (z : List ApiFile). map file_of c.loop-file.files.items ++ trees z) (sym step.0)
          ∙ was.moved;
    }

pub returns : goal.returns
returns c =
    let was = c.loop-file.invariant in
    let none : into_iter_items c.loop-file.file-iterator ≡ [] = nothing_left _ (sym was.count ∙ c.in-None.ensures.steps.0) in
    sym (append-nil (map file_of c.loop-file.files.items))
    ∙ ap (λ (z : List ApiFile). map file_of c.loop-file.files.items ++ trees z) (sym none)
    ∙ was.moved
