use Rattle.jv_types.proofs.Building.{class_table, enum_table}
use Rattle.jv_types.proofs.build.tabled.Goals as goal

pub invariant_of-result : goal.invariant_of-result
invariant_of-result c =
    record {
      tabled = record {
        all_typestates = c.requires.protocols;
        typestates_named = c.requires.named;
        all_classes = c.requires.classes;
        classes_named =
            class_table c.args.files.now c.requires.types c.in_ok-class_names.class_names c.args.classes.items c.as_slice.result.now
            c.as_slice.ensures.value c.requires.classes c.in_ok-class_names.ensures;
        follow = c.requires.follow;
        numbered = c.requires.numbers;
        all_enums = c.requires.enums;
        enums_named =
            enum_table c.args.files.now c.requires.types c.in_ok-enum_names.enum_names c.args.enums.items c.as_slice-2.result.now
            c.as_slice-2.ensures.value c.requires.enums c.in_ok-enum_names.ensures;
      };
    }
