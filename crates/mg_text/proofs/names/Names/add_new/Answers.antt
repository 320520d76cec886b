use Rattle.std.proofs.Common.{◌≡◌, ◌≤◌, ◌^◌, ℕ, Some, None, [], ◌∷◌, ◌++◌, List, cond, length, map, position, string_bytes}
use Rattle.std.proofs.Common.{ap, sym, ◌∙◌, rules, arith}
use Rattle.std.proofs.lemmas.Grind.{common_steps}
use Rattle.std.proofs.Math.ListN.{length-map}
use Rattle.std.proofs.lemmas.List.{map-append}
use Rattle.std.proofs.lemmas.Map.Text.{btree_map_updates_text}
use Rattle.std.specs.BTreeMap.{get_by_text}
use Rattle.std.specs.Str.{bytes_eq}
use Rattle.std.specs.Vec.{vec_len}
use Rattle.mg_text.proofs.Numbered.{position-with_text}
use Rattle.mg_text.proofs.names.Names.add_new.Goals as goal

pub invariant_of-self-2 : goal.invariant_of-self-2
invariant_of-self-2 c =
    let items = c.self.inside.texts.items in
    let texts = map string_bytes items in
    let key = string_bytes c.in_ok-key.key in
    let none : position (bytes_eq key) texts ≡ None =
    rw (c.in_ok-key.ensures.ok, c.self.view_is) c.requires.new in
    let count : length texts ≡ vec_len c.self.inside.texts = length-map items string_bytes ∙ search rules in
    let end : c.len-end.result ≡ length texts = grind (arith, common_steps) in
    let bound : vec_len c.push.new.self ≤ 2 ^ 32 = grind (arith, common_steps) in
    let whole : c.push.new.self.items ≡ items ++ c.in_ok-owned.owned ∷ [] = search rules in
    let pushed : map string_bytes c.push.new.self.items ≡ texts ++ key ∷ [] =
    ap (map string_bytes) whole ∙ map-append string_bytes items (c.in_ok-owned.owned ∷ [])
    ∙ ap (λ b. texts ++ b ∷ []) (c.in_ok-owned.ensures.ok ∙ sym c.in_ok-key.ensures.ok) in
    let at : (t : List ℕ) →
    get_by_text c.insert.new.self t ≡ cond (bytes_eq key t) (Some c.len-end.result) (get_by_text c.self.inside.numbers t) =
    btree_map_updates_text key c.self.inside.numbers c.insert.new.self _ c.in_ok-insert.ensures.updates in (
      bound,
      λ t.
          at t
          ∙ ap (λ g. cond (bytes_eq key t) (Some c.len-end.result) g) (c.self.invariant.1 t)
          ∙ ap (λ n. cond (bytes_eq key t) (Some n) (position (bytes_eq t) texts)) end
          ∙ position-with_text texts key t none
          ∙ ap (position (bytes_eq t)) (sym pushed),
    )
