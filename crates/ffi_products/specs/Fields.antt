-- Which field of a struct is what.
use Rattle.grammar.specs.Reading.{Verdict, value, refused}
use Rattle.products.specs.declared.Products.{Products}
use Rattle.ffi_products.specs.declared.QzProducts.{QzProducts}

abbrev pub products_fields : Verdict Products → QzProducts
products_fields (value v) = record { number = 0; place = 0; products = v.products; comments = v.comments; deepest = v.deepest }
products_fields (refused n p) = record { number = n; place = p; products = 0; comments = 0; deepest = 0 }
