-- The charset, by what the media type means.
use Prim.Native.Nat.{ℕ}
use native.Mathlib.Omega.{arith}
use mathlib.Core.Path.{◌≡◌, refl, sym, ap, ◌∙◌}
use mathlib.Core.Bool.{Bool, true, false, cond, ◌||◌, true≢false}
use mathlib.Core.List.{List, [], ◌∷◌}
use mathlib.Core.Option.{Option, none, some}
use Rattle.grammar.specs.Reading.{value}
use Rattle.grammar.specs.Text.{bytes}
use Rattle.grammar.specs.helpers.Judge.{header}
use Rattle.grammar.proofs.Values.{answered-alike}
use Rattle.octets.specs.Case.{alike}
use Rattle.octets.proofs.Alike.{alike_swap}
use Rattle.media.specs.declared.Parameter.{Parameter}
use Rattle.media.specs.Grammar.{Media, media, rules, part_at}
use Rattle.media.proofs.Parts.{one_way}
use Rattle.media_equal.specs.Meaning.{unquoted, charset_name, Setting, Meaning, meanings, same_setting, has_setting}
use Rattle.media_charset.specs.Charset.{Effective, stated, latin_1, no_charset, text_type, default_charset, charsets}
use Rattle.media_charset.specs.Charset.{charset_is, NoCharset, charset_text, in_bytes, charset_in_bytes, value_or, meant_charset}
use Rattle.media_equal.specs.Places.{setting_at, settings_at, meaning_at}
use Rattle.media_charset.specs.Places.{stated_at}
use Rattle.media_equal.proofs.Agreeing.{text_self, or_true}
use Rattle.media_equal.proofs.Places.{says}
use Rattle.media_charset.proofs.Places.{effect}

-- a parameter of that name is the one with its value
named : (p : Setting) → alike p.name charset_name ≡ true → same_setting (charset_is p.value) p ≡ true
named p e = rw (alike_swap charset_name p.name ∙ e) (text_self (alike charset_name charset_name) p.value)

module _ (s : List ℕ) where
  pub none-stated : (other : Effective) (ps : List Parameter) → ((v : List ℕ) → has_setting (charset_is v) (settings_at s ps) ≡ false)
      → stated_at s other ps ≡ other
  none-stated other [] f = refl
  none-stated other (p ∷ ps) f = go (alike (setting_at s p).name charset_name) refl (none-stated other ps (λ v. tail v))
    where
      right : (x y : Bool) → (x || y) ≡ false → y ≡ false
      right true y e = absurd (true≢false e)
      right false y e = e

      tail : (v : List ℕ) → has_setting (charset_is v) (settings_at s ps) ≡ false
      tail v = right (same_setting (charset_is v) (setting_at s p)) (has_setting (charset_is v) (settings_at s ps)) (f v)

      go : (t : Bool) → alike (setting_at s p).name charset_name ≡ t → stated_at s other ps ≡ other
          → cond t (stated p.value_start p.value_length p.quoted) (stated_at s other ps) ≡ other
      go true e k = absurd (true≢false (sym (rw (named (setting_at s p) e)) ∙ f (setting_at s p).value))
      go false e k = k

  -- what is stated is the value of `charset`
  pub one-stated : (other : Effective) (ps : List Parameter) (i n : ℕ) (q : Bool) → (other ≡ stated i n q → ⊥) → stated_at s other ps ≡ stated i n q
      → has_setting (charset_is (unquoted q (part_at s i n))) (settings_at s ps) ≡ true
  one-stated other [] i n q h e = absurd (h e)
  one-stated other (p ∷ ps) i n q h e = go (alike (setting_at s p).name charset_name) refl e (one-stated other ps i n q h)
    where
      here : alike (setting_at s p).name charset_name ≡ true → p.value_start ≡ i → p.value_length ≡ n → p.quoted ≡ q
          → same_setting (charset_is (unquoted q (part_at s i n))) (setting_at s p) ≡ true
      here f x y z = rw (sym x, sym y, sym z) (named (setting_at s p) f)

      go : (t : Bool) → alike (setting_at s p).name charset_name ≡ t
          → cond t (stated p.value_start p.value_length p.quoted) (stated_at s other ps) ≡ stated i n q
          → (stated_at s other ps ≡ stated i n q → has_setting (charset_is (unquoted q (part_at s i n))) (settings_at s ps) ≡ true)
          → has_setting (charset_is (unquoted q (part_at s i n))) (settings_at s (p ∷ ps)) ≡ true
      go true f g k = rw (here f (cc) (cc) (cc))
      go false f g k =
          let x = charset_is (unquoted q (part_at s i n)) in
          or_true (same_setting x (setting_at s p)) (has_setting x (settings_at s ps)) (k g)

  -- where there is a `charset`, it is stated
  pub some-stated : (other : Effective) (ps : List Parameter) (v : List ℕ) → has_setting (charset_is v) (settings_at s ps) ≡ true
      → (a : ℕ) × (n : ℕ) × (q : Bool) × (stated_at s other ps ≡ stated a n q)
  some-stated other [] v e = absurd (true≢false (sym e))
  some-stated other (p ∷ ps) v e = go (alike (setting_at s p).name charset_name) refl (some-stated other ps v)
    where
      not_this : alike (setting_at s p).name charset_name ≡ false → has_setting (charset_is v) (settings_at s ps) ≡ true
      not_this f = sym (rw (alike_swap charset_name (setting_at s p).name ∙ f)) ∙ e

      go : (t : Bool) → alike (setting_at s p).name charset_name ≡ t
          → (has_setting (charset_is v) (settings_at s ps) ≡ true → (a : ℕ) × (n : ℕ) × (q : Bool) × (stated_at s other ps ≡ stated a n q))
          → (a : ℕ) × (n : ℕ) × (q : Bool)
          × (cond t (stated p.value_start p.value_length p.quoted) (stated_at s other ps) ≡ stated a n q)
      go true f k = (p.value_start, p.value_length, p.quoted, refl)
      go false f k = k (not_this f)

  -- what is stated, in bytes, is what the parameters mean
  pub stated-text : (other : Effective) (ps : List Parameter)
      → charset_text s (stated_at s other ps) ≡ value_or (charset_text s other) (settings_at s ps)
  stated-text other [] = refl
  stated-text other (p ∷ ps) = go (alike (setting_at s p).name charset_name) (stated-text other ps)
    where
      go : (t : Bool) → charset_text s (stated_at s other ps) ≡ value_or (charset_text s other) (settings_at s ps)
          → charset_text s (cond t (stated p.value_start p.value_length p.quoted) (stated_at s other ps))
          ≡ cond t (some (setting_at s p).value) (value_or (charset_text s other) (settings_at s ps))
      go true k = refl
      go false k = k

-- the default stands in no text
default_text : (s : List ℕ) (a : Bool) (type : List ℕ) → charset_text s (default_charset a type) ≡ charset_text [] (default_charset a type)
default_text s false type = refl
default_text s true type = go (alike type text_type)
  where
    go : (t : Bool) → charset_text s (cond t latin_1 no_charset) ≡ charset_text [] (cond t latin_1 no_charset)
    go true = refl
    go false = refl

pub default_unstated : (a : Bool) (type : List ℕ) (i n : ℕ) (q : Bool) → default_charset a type ≡ stated i n q → ⊥
default_unstated false type i n q e = let z : ◌≡◌ {A = ℕ} 0 1 = cc in omega arith
default_unstated true type i n q e = go (alike type text_type) e
  where
    go : (t : Bool) → cond t latin_1 no_charset ≡ stated i n q → ⊥
    go true f = let z : ◌≡◌ {A = ℕ} 0 1 = cc in omega arith
    go false f = let z : ◌≡◌ {A = ℕ} 0 1 = cc in omega arith

-- ## Of a text

pub value-is : {A : Type 0} {x y : A} → value x ≡ value y → x ≡ y
value-is f = cc

module _ (s : List ℕ) (m : Meaning) (e : header meanings s ≡ value m) where
  found : (x : Media) × (header rules s ≡ value x) × (m ≡ meaning_at s x.names x.table)
  found =
      let w = answered-alike meanings media tt tt one_way s (value m) e in
      (media w.0, w.3, value-is (sym e ∙ (says s (media w.0) w.3).means))

  module _ (a : Bool) where
    pub default_effect : NoCharset m → header (charsets a) s ≡ value (default_charset a m.type)
    default_effect f =
        let x = found in
        effect s a x.0 x.1
        ∙ ap value (none-stated s _ x.0.table (λ v. ap (λ (k : Meaning). has_setting (charset_is v) k.settings) (sym x.2) ∙ f v)
        ∙ ap (λ (k : Meaning). default_charset a k.type) (sym x.2))

    pub value_effect : (i n : ℕ) (q : Bool) → header (charsets a) s ≡ value (stated i n q)
        → has_setting (charset_is (unquoted q (part_at s i n))) m.settings ≡ true
    value_effect i n q f =
        let x = found in
        ap (λ (k : Meaning). has_setting (charset_is (unquoted q (part_at s i n))) k.settings) x.2
        ∙ one-stated s _ x.0.table i n q (default_unstated a _ i n q) (value-is (sym (effect s a x.0 x.1) ∙ f))

    pub stated-effect : (v : List ℕ) → has_setting (charset_is v) m.settings ≡ true
        → (i : ℕ) × (n : ℕ) × (q : Bool) × (header (charsets a) s ≡ value (stated i n q))
    stated-effect v f =
        let x = found in
        let y = some-stated s _ x.0.table v (ap (λ (k : Meaning). has_setting (charset_is v) k.settings) (sym x.2) ∙ f) in
        (y.0, y.1, y.2, effect s a x.0 x.1 ∙ ap value y.3)

    -- in bytes
    pub meant_effect : charset_in_bytes (charsets a) s ≡ value (meant_charset a m)
    meant_effect =
        let x = found in
        let type = part_at s x.0.names.type_start x.0.names.type_length in
        ap (in_bytes s) (effect s a x.0 x.1)
        ∙ ap value (stated-text s _ x.0.table
        ∙ ap (λ (o : Option (List ℕ)). value_or o (settings_at s x.0.table)) (default_text s a type)
        ∙ ap (meant_charset a) (sym x.2))

    pub bytes-effect : (v : List ℕ) → has_setting (charset_is v) m.settings ≡ true
        → (w : List ℕ) × (charset_in_bytes (charsets a) s ≡ value (some w)) × (has_setting (charset_is w) m.settings ≡ true)
    bytes-effect v f =
        let y = stated-effect v f in
        (unquoted y.2 (part_at s y.0 y.1), ap (in_bytes s) y.3, value_effect y.0 y.1 y.2 y.3)

  pub text-effect : alike m.type text_type ≡ true → NoCharset m → charset_in_bytes (charsets true) s ≡ value (some (bytes "ISO-8859-1"))
  text-effect t f = ap (in_bytes s) (default_effect true f) ∙ rw t

  pub other-effect : alike m.type text_type ≡ false → NoCharset m → charset_in_bytes (charsets true) s ≡ value none
  other-effect t f = ap (in_bytes s) (default_effect true f) ∙ rw t
