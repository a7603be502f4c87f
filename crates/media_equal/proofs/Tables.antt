-- Parameters among others, and settings among others.
use Rattle.std.proofs.Common.{◌≡◌, Bool, ◌&&◌, ◌||◌, ℕ, List, [], ◌∷◌, refl, ap, ap₂}
use Rattle.std.specs.List.{list_any, list_all}
use Rattle.media.specs.declared.Parameter.{Parameter}
use Rattle.media_equal.specs.Meaning.{Setting, same_setting, has_setting, has_settings}
use Rattle.media_equal.specs.Places.{setting_at, settings_at}

module _ (a b : List ℕ) where
  any-setting : (p : Setting) (qs : List Parameter) → list_any (λ q. same_setting p (setting_at b q)) qs ≡ has_setting p (settings_at b qs)
  any-setting p [] = refl
  any-setting p (q ∷ qs) = ap (λ (t : Bool). same_setting p (setting_at b q) || t) (any-setting p qs)

  pub all-settings : (ps qs : List Parameter)
      → list_all (λ p. list_any (λ q. same_setting (setting_at a p) (setting_at b q)) qs) ps ≡ has_settings (settings_at a ps) (settings_at b qs)
  all-settings [] qs = refl
  all-settings (p ∷ ps) qs = ap₂ (λ (t u : Bool). t && u) (any-setting (setting_at a p) qs) (all-settings ps qs)
