use Rattle.std.proofs.Common.{◌+◌, drop, map}
use Rattle.cls_tree.specs.View.{inner_of}
use Rattle.cls_tree.specs.Layout.{inner_bytes}
use Rattle.cls_tree.specs.Fits.{FitsInner}
use Rattle.cls_layout.proofs.Drops.{map_drop_is}
use Rattle.cls_bytes.proofs.Written.{more, first_fits, others_fit, all_mapped}
use Rattle.cls_bytes.proofs.writing.put_inners.Goals as goal

pub put_inner-requires : goal.put_inner-requires
put_inner-requires c =
    let e = map_drop_is inner_of c.args.attributes.now c.loop-attribute.attribute-index c.attribute-item.result c.loop-attribute-test.true
    c.attribute-item.is in
    first_fits FitsInner (map inner_of (drop c.loop-attribute.attribute-index c.args.attributes.now))
    (map inner_of (drop (c.loop-attribute.attribute-index + 1) c.args.attributes.now)) (inner_of c.attribute-item.result) e
    c.loop-attribute.invariant.fits

pub loop-attribute-preserved : goal.loop-attribute-preserved
loop-attribute-preserved c =
    let e = map_drop_is inner_of c.args.attributes.now c.loop-attribute.attribute-index c.attribute-item.result c.loop-attribute-test.true
    c.attribute-item.is in
    record {
      so_far = more inner_bytes (map inner_of (drop c.loop-attribute.attribute-index c.args.attributes.now))
          (map inner_of (drop (c.loop-attribute.attribute-index + 1) c.args.attributes.now)) (inner_of c.attribute-item.result)
          c.loop-attribute.out c.put_inner.new.out _ e c.in_ok-put_inner.ensures c.loop-attribute.invariant.so_far;
      fits = others_fit FitsInner (map inner_of (drop c.loop-attribute.attribute-index c.args.attributes.now))
          (map inner_of (drop (c.loop-attribute.attribute-index + 1) c.args.attributes.now)) (inner_of c.attribute-item.result) e
          c.loop-attribute.invariant.fits;
    }

pub returns : goal.returns
returns c = all_mapped inner_bytes inner_of c.args.attributes.now c.loop-attribute.attribute-index c.loop-attribute.out _
    c.loop-attribute-test.false c.loop-attribute.invariant.so_far
