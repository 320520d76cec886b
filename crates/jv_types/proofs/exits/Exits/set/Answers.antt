use Rattle.std.proofs.Common.{◌≡◌, string_bytes, Some, sym, ap, subst, ◌∙◌, refl}
use Rattle.std.specs.HashMap.{UpdatesBy}
use Rattle.std.specs.Option.{option_map}
use Rattle.std.specs.Str.{bytes_eq}
use Rattle.std.specs.String.{string_eq}
use Rattle.jv_types.specs.inner.Exits.{met_at, with_jumps}
use Rattle.jv_types.specs.declared.exits.Exits.{Exits}
use Rattle.jv_types.proofs.ExitSteps.{set_named}
use Rattle.jv_types.proofs.exits.Exits.set.Goals as goal

pub returns-in_ok-insert-in-Some : goal.returns-in_ok-insert-in-Some
returns-in_ok-insert-in-Some c = λ l.
    let key : string_bytes c.in_ok-key-in-Some.key ≡ c.in-Some.name.now = c.in_ok-key-in-Some.ensures.ok in
    let new : Exits = record { alloc = c.args.self.now.alloc; plain = c.args.self.now.plain; labelled = c.insert.new.self } in
    set_named c.args.self.now new c.in-Some.name.now c.args.jumps refl
    (subst (λ n. UpdatesBy string_eq (λ k. bytes_eq n (string_bytes k)) c.args.self.now.labelled c.insert.new.self (Some c.args.jumps)) key
    c.in_ok-insert-in-Some.ensures.updates) l
    ∙ ap (λ z. with_jumps (met_at c.args.self.now) (option_map (λ n. n.now) z) c.args.jumps l) (sym c.in-Some.is)
