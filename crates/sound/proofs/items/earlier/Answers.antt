-- `sound::items::earlier` meets its contract: `Tabling` of sets, each what `Ended` says. Assumes nothing.
use Rattle.std.proofs.Common.{rules, arith, ℕ, not, ◌≡◌, length, replicate, refl, sym, ap, subst, ◌∙◌}
use Rattle.graph.proofs.Fills.{Tabling, tabled_all, tabled_more, tabled_none}
use Rattle.sound.specs.Items.{earlier_than}
use Rattle.sound.proofs.Earlier.{ended-active, ended-commit, ended_fill, ended-start}
use Rattle.sound.proofs.Places.{start-at}
use Rattle.sound.proofs.items.earlier.Goals as goal
use Rattle.sound.proofs.items.earlier.Goals.{then-not-active, else-not-active}

pub loop-k-init : goal.loop-k-init
loop-k-init c = let us = c.args.used.now in (tabled_none (length us) (replicate {A = ℕ} 32 0) (earlier_than us), ended-start us (replicate {A = ℕ} 32 0) refl, refl)

pub loop-k-preserved : goal.loop-k-preserved
loop-k-preserved c =
    let us = c.args.used.now in
    let k = c.loop-k in
    let rise = start-at us c.requires.1 in (
      tabled_more (length us) k.early (earlier_than us) k.k c.past-done.result (search rules) k.invariant.0 (ended_fill us rise k.k k.kept k.done k.ends k.invariant.1 (search rules) c.past-done.result c.past-done.ensures),
      elim c.if-not-active.branch [
        | then-not-active w ↦ rw (w.kept-is, w.ends-is, w.with-kept.ensures) (ended-commit us rise k.k k.kept k.done k.ends k.invariant.1 (search rules) c.past-done.result c.past-done.ensures (ap not (sym c.active.ensures ∙ w.if-not-active.true)) (search rules))
        | else-not-active w ↦ rw (w.kept-is, w.ends-is) (ended-active us rise k.k k.kept k.done k.ends k.invariant.1 (search rules) c.past-done.result c.past-done.ensures (ap not (sym c.active.ensures ∙ w.if-not-active.false)))
      ],
      search rules,
    )

pub returns : goal.returns
returns c =
    let us = c.args.used.now in
    let k = c.loop-k in
    let all : k.k ≡ length us = omega arith in
    tabled_all (length us) k.early (earlier_than us) (subst (λ (i : ℕ). Tabling (length us) k.early (earlier_than us) i) all k.invariant.0)
