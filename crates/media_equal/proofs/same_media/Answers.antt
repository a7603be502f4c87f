-- `media_equal::same_media` meets its contract: the names, then both ways among the parameters.
use Rattle.std.proofs.Common.{◌≡◌, ℕ, List, ap₂, ◌∙◌}
use Rattle.std.specs.List.{list_any, list_all}
use Rattle.media.specs.declared.Parameter.{Parameter}
use Rattle.media_equal.specs.Meaning.{same_setting, has_settings}
use Rattle.media_equal.specs.Places.{setting_at, settings_at}
use Rattle.media_equal.proofs.Tables.{all-settings}
use Rattle.media_equal.proofs.Compared.{fails, holds}
use Rattle.media_equal.proofs.same_media.Goals as goal

forth : (a b : List ℕ) (ps qs us vs : List Parameter) → ps ≡ us → qs ≡ vs
    → list_all (λ p. list_any (λ q. same_setting (setting_at a p) (setting_at b q)) qs) ps ≡ has_settings (settings_at a us) (settings_at b vs)
forth a b ps qs us vs e f = all-settings a b ps qs ∙ ap₂ (λ (x y : List Parameter). has_settings (settings_at a x) (settings_at b y)) e f

pub returns-then-not-same_names : goal.returns-then-not-same_names
returns-then-not-same_names c =
    let t = c.same_names in
    fails t.result _ _ t.ensures c.if-not-same_names.true

pub returns-then-not-has_parameters : goal.returns-then-not-has_parameters
returns-then-not-has_parameters c =
    let t = c.same_names in
    let u = c.has_parameters in
    fails u.result _ _ (u.ensures ∙ forth c.args.a.now c.args.b.now _ _ _ _ c.used.ensures c.used-2.ensures) c.if-not-has_parameters.true
    ∙ holds t.result _ _ t.ensures c.if-not-same_names.false

pub returns : goal.returns
returns c =
    let t = c.same_names in
    let u = c.has_parameters in
    c.has_parameters-2.ensures ∙ forth c.args.b.now c.args.a.now _ _ _ _ c.used-3.ensures c.used-4.ensures
    ∙ holds u.result _ _ (u.ensures ∙ forth c.args.a.now c.args.b.now _ _ _ _ c.used.ensures c.used-2.ensures) c.if-not-has_parameters.false
    ∙ holds t.result _ _ t.ensures c.if-not-same_names.false
